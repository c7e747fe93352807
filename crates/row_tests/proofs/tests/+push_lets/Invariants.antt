use Rattle.row_tests.proofs.tests.+push_lets.Given as goal

abbrev pub decreases-push_lets : goal.decreases-push_lets
decreases-push_lets l = l.height
