-- Rows and values as text.
use Rattle.std.specs.Prelude.{ℕ, cond, List, ◌++◌, codes, decimal, ◌==◌}
use Rattle.std.specs.Fmt.{signed_decimal}
use Rattle.calculus.specs.declared.rows.Row.{Row}
use Rattle.calculus.specs.declared.values.Value.{Value}
use Rattle.calculus.specs.declared.values.Value.TheVariants.{Figure, Location}

-- KIND/LABEL/NUMBER
abbrev pub spelled : Row → List ℕ
spelled r = decimal r.kind ++ (codes "/" ++ (decimal r.label ++ (codes "/" ++ signed_decimal r.number)))

-- the sign of its kind and the field that the kind uses; of no such kind, spelled out
abbrev pub row_text : Row → List ℕ
row_text r =
    cond (r.kind == 1) (codes "V" ++ signed_decimal r.number)
    (cond (r.kind == 2) (codes "F" ++ signed_decimal r.number)
    (cond (r.kind == 3) (codes "O" ++ signed_decimal r.number)
    (cond (r.kind == 4) (codes "S" ++ decimal r.label)
    (cond (r.kind == 5) (codes "U" ++ decimal r.label)
    (cond (r.kind == 6) (codes "C")
    (cond (r.kind == 7) (codes "L")
    (cond (r.kind == 8) (codes "M" ++ decimal r.label)
    (spelled r))))))))

abbrev pub value_text : Value → List ℕ
value_text (Figure k) = signed_decimal k
value_text (Location n) = codes "@" ++ decimal n
