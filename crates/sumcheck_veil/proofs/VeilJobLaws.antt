-- The numbers of a job of `veil` that a value describes are those of elements.
use Rattle.std.proofs.Common.{◌≡◌, ℕ, zero, suc, ◌<◌, List, [], ◌∷◌, All, length, get_or, take, Bool, true, false, Option, Some, None, Ok, refl, sym, ◌∙◌, ap, subst, arith, eq-eqb, ne_eqb, if◌then◌else◌}
use Rattle.std.specs.Prelude.{◌==◌, ◌&&◌, codes, nat_le}
use Rattle.std.proofs.lemmas.Bool.{leb-true, eqb-true}
use Rattle.std.proofs.lemmas.List.Elements.{All-nil, All-cons, All-head, All-tail}
use Rattle.std.proofs.lemmas.Option.{same_Some, none-some, cond_some, option_and_then_some}
use Rattle.serde_json.specs.Data.{Data}
use Rattle.serde_json.specs.Find.{get}
use Rattle.sc_forms.specs.Forms.{at_most_form, is_object, list_form, list_of_length_form}
use Rattle.sumcheck_members.specs.declared.job.FieldName.{FieldName}
use Rattle.sumcheck_members.specs.declared.job.Sizes.{Sizes}
use Rattle.sumcheck_members.specs.Members.{whole_job, unless_misfit}
use Rattle.sumcheck_members.specs.Elements.{element_form, field_form, sizes_of}
use Rattle.sumcheck_members.specs.Stated.{AreElements, stated_over}
use Rattle.sumcheck_members.proofs.FormLaws.{Gives, option_map_some, below-gives, at_most-gives, list-gives, list_of_length-gives, with_member-gives, needed-gives, unless_misfit-gives, any-gives, tested_ok, ok-same}
use Rattle.sumcheck_members.proofs.StatedLaws.{stated-fit}
use Rattle.sumcheck_veil.specs.declared.job.Masks.{Masks}
use Rattle.sumcheck_veil.specs.declared.job.Masks.TheVariants.{Written, Drawn}
use Rattle.sumcheck_veil.specs.declared.job.Veil.{Veil}
use Rattle.sumcheck_veil.specs.declared.job.VeilJob.{VeilJob}
use Rattle.sumcheck_veil.specs.VeilJob.{most_length, randomness_length, are_long, some_length, one_length, messages_form, randomness_form, written_form, length_form, drawn_form, masks_by, masks_form, veil_over, veil_members_over, veil_members_of, veil_job_of, MessagesFit, IsListOf, WrittenFits, IsLength, DrawnFits, MasksFit, VeilFits, VeilJobFits}

-- ---- lists of one length

-- where all have it
pub are_long-all : (n : ℕ) (ms : List (List ℕ)) → All (λ m. length m ≡ n) ms → are_long n ms ≡ true
are_long-all n [] all = refl
are_long-all n (m ∷ ms) all =
    let P = λ (t : List ℕ). length t ≡ n in
    ap (λ b. if b then are_long n ms else false) (eq-eqb _ _ (All-head P m ms all)) ∙ are_long-all n ms (All-tail P m ms all)

-- where one has another
pub are_long-other : (n : ℕ) (ms : List (List ℕ)) (i : ℕ) (m : List ℕ) → i < length ms → m ≡ get_or ms i m → All (λ t. length t ≡ n) (take i ms) → (length m ≡ n → ⊥) →
    are_long n ms ≡ false
are_long-other n [] i m low is all other = absurd (omega (arith, low))
are_long-other n (t ∷ ms) zero m low is all other =
    ap (λ b. if b then are_long n ms else false) (ne_eqb (length t) n (λ e. other (ap length is ∙ e)))
are_long-other n (t ∷ ms) (suc i) m low is all other =
    let P = λ (t : List ℕ). length t ≡ n in
    ap (λ b. if b then are_long n ms else false) (eq-eqb _ _ (All-head P t (take i ms) all))
    ∙ are_long-other n ms i m (omega (arith, low)) is (All-tail P t (take i ms) all) other

-- what the test tells
long_first : (n : ℕ) (m : List ℕ) (ms : List (List ℕ)) (b : Bool) → (length m == n) ≡ b → (are_long n ms ≡ true → All (λ t. length t ≡ n) ms) →
    (if b then are_long n ms else false) ≡ true → All (λ t. length t ≡ n) (m ∷ ms)
long_first n m ms true same later rest = All-cons (λ t. length t ≡ n) m ms (eqb-true _ _ same) (later rest)
long_first n m ms false same later rest = cc

are_long-gives : (n : ℕ) (ms : List (List ℕ)) → are_long n ms ≡ true → All (λ m. length m ≡ n) ms
are_long-gives n [] is = All-nil (λ m. length m ≡ n)
are_long-gives n (m ∷ ms) is = long_first n m ms (length m == n) refl (λ rest. are_long-gives n ms rest) is

both_true : (a b : Bool) → a && b ≡ true → (a ≡ true) × (b ≡ true)
both_true true b is = (refl, is)
both_true false b is = cc

module _ (sizes : Sizes) where
  abbrev extension_element : Data → Option ℕ
  extension_element = element_form sizes.extension

  -- ---- masks that are written out

  messages-fit : (rounds : ℕ) (ms : List (List ℕ)) → some_length ms ≡ true → All (AreElements sizes.extension) ms × (length ms ≡ rounds) → MessagesFit sizes rounds ms
  messages-fit rounds [] is whole = record { count = whole.1; few = omega arith; long = All-nil (λ m. length m ≡ 0); elements = whole.0 }
  messages-fit rounds (m ∷ ms) is whole =
      let some = both_true (nat_le 1 (length m)) (nat_le (length m) most_length && are_long (length m) (m ∷ ms)) is in
      let few = both_true (nat_le (length m) most_length) (are_long (length m) (m ∷ ms)) some.1 in
      record { count = whole.1; few = leb-true (length m) most_length few.0; long = are_long-gives (length m) (m ∷ ms) few.1; elements = whole.0 }

  -- what the test lets through
  pub messages-kept : (rounds : ℕ) (xs ms : List (List ℕ)) → one_length xs ≡ Some ms → All (AreElements sizes.extension) xs × (length xs ≡ rounds) → MessagesFit sizes rounds ms
  messages-kept rounds xs ms some whole =
      let kept = cond_some (some_length xs) xs ms some in
      subst (MessagesFit sizes rounds) kept.1 (messages-fit rounds xs kept.0 whole)

  messages-gives : (rounds : ℕ) → Gives (messages_form sizes rounds) (MessagesFit sizes rounds)
  messages-gives rounds d ms is =
      option_and_then_some one_length (list_of_length_form (list_form extension_element) rounds d) ms is (λ xs at some.
      messages-kept rounds xs ms some (list_of_length-gives (list_form extension_element) (list-gives extension_element (below-gives sizes.extension)) rounds d xs at))

  randomness-gives : (rounds : ℕ) → Gives (randomness_form sizes rounds) (λ rs. All (IsListOf sizes.extension randomness_length) rs × (length rs ≡ rounds))
  randomness-gives rounds =
      list_of_length-gives (list_of_length_form extension_element randomness_length) (list_of_length-gives extension_element (below-gives sizes.extension) randomness_length) rounds

  written-gives : (rounds : ℕ) → Gives (written_form sizes rounds) (WrittenFits sizes rounds)
  written-gives rounds d w is =
      with_member-gives d (codes "messages") (messages_form sizes rounds) _ w (messages-gives rounds) is (λ messages fit is.
      with_member-gives d (codes "randomness") (randomness_form sizes rounds) _ w (randomness-gives rounds) is (λ randomness lists is.
      subst (WrittenFits sizes rounds) (same_Some (record { messages = messages; randomness = randomness }) w is)
      (record { messages = fit; randomness = lists.0; count = lists.1 })))

-- ---- masks that are drawn

length-gives : Gives length_form IsLength
length-gives d n is =
    option_and_then_some (λ m. if nat_le 1 m then Some m else None) (at_most_form most_length d) n is (λ m at some.
    let kept = cond_some (nat_le 1 m) m n some in
    subst IsLength kept.1 (record { some = leb-true 1 m kept.0; few = at_most-gives most_length d m at }))

drawn-gives : Gives drawn_form DrawnFits
drawn-gives d m is =
    with_member-gives d (codes "seed") (at_most_form 18446744073709551615) _ m (at_most-gives 18446744073709551615) is (λ seed low is.
    with_member-gives d (codes "length") length_form _ m length-gives is (λ n fit is.
    subst DrawnFits (same_Some (record { seed = seed; length = n }) m is) fit))

-- ---- the members

module _ (sizes : Sizes) where
  masks-by : (rounds : ℕ) (d : Data) (messages seed : Option Data) (m : Masks) → masks_by sizes rounds d messages seed ≡ Some m → MasksFit sizes rounds m
  masks-by rounds d (Some messages) None m is =
      option_map_some (λ w. Written w) (written_form sizes rounds d) m is (λ w at same. subst (MasksFit sizes rounds) same (written-gives sizes rounds d w at))
  masks-by rounds d None (Some seed) m is =
      option_map_some (λ w. Drawn w) (drawn_form d) m is (λ w at same. subst (MasksFit sizes rounds) same (drawn-gives d w at))
  masks-by rounds d None None m is = absurd (none-some m is)
  masks-by rounds d (Some messages) (Some seed) m is = absurd (none-some m is)

  masks-gives : (rounds : ℕ) → Gives (masks_form sizes rounds) (MasksFit sizes rounds)
  masks-gives rounds d m is = masks-by rounds d (get (codes "messages") d) (get (codes "seed") d) m is

  veil-fits : (d : Data) (veil : Veil) → veil_over sizes d ≡ Ok veil → VeilFits sizes veil
  veil-fits d veil is =
      needed-gives (at_most_form 64) (codes "rounds") d _ veil (at_most-gives 64) is (λ rounds few is.
      needed-gives (masks_form sizes rounds) (codes "masks") d _ veil (masks-gives rounds) is (λ masks fit is.
      needed-gives (element_form sizes.extension) (codes "aux") d _ veil (below-gives sizes.extension) is (λ aux low is.
      subst (VeilFits sizes) (ok-same (record { rounds = rounds; masks = masks; aux = aux }) veil is) (record { few = few; masks = fit; aux = low }))))

  members-fit : (field : FieldName) (d : Data) (job : VeilJob) → veil_members_over field sizes d ≡ Ok job → (job.stated.field ≡ field) × VeilJobFits sizes job
  members-fit field d job is =
      unless_misfit-gives (stated_over field sizes d) (λ stated. unless_misfit (veil_over sizes d) (λ veil. Ok (record { stated = stated; veil = veil }))) job is (λ stated at rest.
      unless_misfit-gives (veil_over sizes d) (λ veil. Ok (record { stated = stated; veil = veil })) job rest (λ veil has made.
      let told = stated-fit sizes field d stated at in
      subst (λ j. (j.stated.field ≡ field) × VeilJobFits sizes j) (ok-same (record { stated = stated; veil = veil }) job made)
      (told.0, record { stated = told.1; veil = veil-fits d veil has })))

-- each number of a job that a value describes is that of an element
pub veil_job_of-fits : (d : Data) (job : VeilJob) → veil_job_of d ≡ Ok job → VeilJobFits (sizes_of job.stated.field) job
veil_job_of-fits d job is =
    needed-gives field_form (codes "field") d (λ field. veil_members_over field (sizes_of field) d) job (any-gives field_form)
    (tested_ok (is_object d) (veil_members_of d) whole_job job is) (λ field _ is.
    let fit = members-fit (sizes_of field) field d job is in
    subst (λ f. VeilJobFits (sizes_of f) job) (sym fit.0) fit.1)
