-- What stands before the rounds, from what the calls append that write it.
use Rattle.std.proofs.Common.{◌≡◌, ℕ, ◌+◌, ◌≤◌, [], ◌∷◌, ◌++◌, List, length, ap, sym, ◌∙◌, append_assoc, length-append, arith}
use Rattle.std.proofs.lemmas.List.{append-nil, length-map}
use Rattle.sc_definitions.specs.declared.events.Event.{Event}
use Rattle.sc_definitions.specs.Events.{Extension, words}
use Rattle.sc_definitions.specs.Transcript.{sent}
use Rattle.sc_definitions.specs.Seeds.{Separator, seed_words, degree_separator, degree_seed}
use Rattle.sc_degree.specs.declared.transcript.GenericDegreeShape.{GenericDegreeShape}
use Rattle.sc_degree.specs.Shapes.{generic_seed, prelude_of}

-- the words of one value are its parts'
sent-one : (E : Extension) (x : ℕ) → sent E (x ∷ []) ≡ words (E.parts x)
unfolding sent
sent-one E x = ap words (append-nil (E.parts x))

module _ (E : Extension) (shape : GenericDegreeShape) (claimed parts : ℕ) (s : Separator) (degree : E.degree ≡ parts) (is : s ≡ degree_separator parts shape.degree shape.pow_bits shape.num_rounds) where
  -- the separator's words are the seed
  seed-is : seed_words s ≡ generic_seed E.degree shape
  unfolding degree_seed
  seed-is = ap seed_words is ∙ ap (λ n. seed_words (degree_separator n shape.degree shape.pow_bits shape.num_rounds)) (sym degree)

  -- the seed is followed by the parts of the claimed sum
  pub prelude_grown : (h h₁ h₂ h₃ : List Event) → h₁ ≡ h → h₂ ≡ h₁ ++ words (seed_words s) → h₃ ≡ h₂ ++ words (E.parts claimed) → h₃ ≡ h ++ prelude_of E shape claimed
  prelude_grown h h₁ h₂ h₃ kept seeded observed =
      observed ∙ ap (λ t. t ++ words (E.parts claimed)) (seeded ∙ ap (λ t. t ++ words (seed_words s)) kept)
      ∙ append_assoc h (words (seed_words s)) (words (E.parts claimed))
      ∙ ap (λ t. h ++ (words t ++ words (E.parts claimed))) seed-is ∙ ap (λ t. h ++ (words (generic_seed E.degree shape) ++ t)) (sym (sent-one E claimed))

  prelude-length : length (E.parts claimed) ≡ parts → length (prelude_of E shape claimed) ≡ length (seed_words s) + parts
  prelude-length many =
      let first : length (words (generic_seed E.degree shape)) ≡ length (seed_words s) = length-map _ _ ∙ ap length (sym seed-is) in
      let second : length (sent E (claimed ∷ [])) ≡ parts = ap length (sent-one E claimed) ∙ length-map _ _ ∙ many in
      length-append (words (generic_seed E.degree shape)) (sent E (claimed ∷ [])) ∙ ap (λ n. n + length (sent E (claimed ∷ []))) first ∙ ap (λ n. length (seed_words s) + n) second

  -- and takes no more room than that
  pub prelude_room : (spare spare₁ spare₂ spare₃ : ℕ) → length (E.parts claimed) ≡ parts → spare ≤ spare₁ → spare₁ ≤ spare₂ + length (seed_words s) → spare₂ ≤ spare₃ + parts →
      spare ≤ spare₃ + length (prelude_of E shape claimed)
  prelude_room spare spare₁ spare₂ spare₃ many first second third = omega (arith, prelude-length many, first, second, third)
