use Rattle.std.proofs.Common.{◌≡◌, List, [], ◌++◌, sym, ap, ◌∙◌, append-nil}
use Rattle.calculus.specs.declared.code.Counts.{Counts}
use Rattle.calculus.specs.Text.{Text, used, joined}
use Rattle.compiler_tests.proofs.trying.there_and_back.Goals as goal

abbrev nothing : Text
nothing = record { contents = []; operations = []; methods = [] }

nothing_more : (T : Text) → joined T nothing ≡ T
nothing_more T =
    let a = append-nil T.contents in
    let b = append-nil T.operations in
    let c = append-nil T.methods in
    ap (λ (x : List _). record { contents = x; operations = T.operations ++ []; methods = T.methods ++ [] }) a
    ∙ ap (λ (x : List _). record { contents = T.contents; operations = x; methods = T.methods ++ [] }) b
    ∙ ap (λ (x : List _). record { contents = T.contents; operations = T.operations; methods = x }) c

pub returns : goal.returns
returns c n e h l =
    let k = c.in_ok-program.ensures.leaves in
    let x = k.term.0 in
    let w = k.term.1 in
    let area = c.args.area.now in
    let before : Text = used area.tables area.counts in
    c.list_back.ensures.compiled before nothing c.args.rows.now c.args.givens x k.fits (k.appended x w ∙ sym (nothing_more _)) (k.number ∙ sym (ap (λ (y : Counts). y.contents) k.counted)) w.is w.fit h l
