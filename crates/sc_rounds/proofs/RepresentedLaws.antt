-- What a prover over a representation holds.
use Rattle.std.proofs.Common.{◌≡◌, ◌↔◌, ℕ, List, length, map, IsTrue, nat_eq, ap, sym, ◌∙◌}
use Rattle.std.proofs.lemmas.Bool.{eqb-true, eq-eqb}
use Rattle.std.proofs.lemmas.List.{length-map}
use Rattle.sc_definitions.specs.Ring.{Ops}
use Rattle.sc_definitions.specs.Tables.{inner_product}
use Rattle.sc_table.specs.Polys.{variables_of, table_of}
use Rattle.sc_table.specs.declared.poly.Poly.{Poly}
use Rattle.sc_rounds.specs.Represented.{TablesAgree}

-- lists of the same numbers have one length
pub same_length : {X Y : Type 0} (f : X → ℕ) (g : Y → ℕ) (xs : List X) (ys : List Y) → map f xs ≡ map g ys → length xs ≡ length ys
same_length f g xs ys e = sym (length-map xs f) ∙ ap length e ∙ length-map ys g

-- whether tables agree, by the sum that was computed
pub agree : {A B : Type 0} (o : Ops) {number : A → ℕ} {represented : B → ℕ} {evals : Poly A} {weights : Poly B} {sum a b : ℕ} →
    variables_of evals ≡ variables_of weights → a ≡ inner_product o (variables_of evals) (table_of number evals) (table_of represented weights) → b ≡ sum →
    IsTrue (nat_eq a b) ↔ TablesAgree o number represented evals weights sum
agree o {a} {b} same a_is b_is = (
  λ t. let e : a ≡ b = eqb-true a b t in record { variables = same; true_sum = sym b_is ∙ sym e ∙ a_is },
  λ agrees. let e : a ≡ b = a_is ∙ sym agrees.true_sum ∙ sym b_is in eq-eqb a b e,
)
