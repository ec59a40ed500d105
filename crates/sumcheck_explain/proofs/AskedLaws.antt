-- What the elements of a job ask is what its numbers do, and the masks that explain it.
use Rattle.std.proofs.Common.{◌≡◌, ◌≢◌, ℕ, suc, List, [], ◌∷◌, All, length, map, refl, sym, ap, ◌∙◌, subst, arith}
use Rattle.std.proofs.lemmas.List.{length-map}
use Rattle.std.proofs.lemmas.List.Elements.{All-nil, All-cons, All-head, All-tail}
use Rattle.sc_definitions.specs.Ring.{Ops, IsField, plus}
use Rattle.sc_definitions.specs.Polynomials.{poly_at}
use Rattle.sc_zk_definitions.specs.Masks.{Piece}
use Rattle.sc_zk_definitions.specs.Views.{view_of, later_endpoints, AreListsOf}
use Rattle.sc_zk_definitions.specs.Explained.{Unmixing, explained_mask, explained_masks}
use Rattle.sc_zk_definitions.proofs.ToldLaws.{masks_are_told}
use Rattle.sc_zk_definitions.proofs.ExplainedLaws.{views_are_explained}
use Rattle.sc_zk_views.specs.declared.view.PlainPiece.{PlainPiece}
use Rattle.sc_zk_views.specs.declared.view.RealView.{RealView}
use Rattle.sc_zk_views.specs.Views.{ViewFits, pieces_in, rows_in, width_of}
use Rattle.sumcheck_members.specs.Stated.{AreElements}
use Rattle.sumcheck_explain.specs.declared.job.ExplainJob.{ExplainJob}
use Rattle.sumcheck_explain.specs.ExplainJob.{ExplainJobFits}
use Rattle.sumcheck_explain.specs.Explains.{pieces_given, view_given, masks_over}

-- ---- the masks of a job

-- there are as many masks as endpoints
masks-count : (o : Ops) (m : Unmixing) (done : ℕ) (es gs : List ℕ) (ps : List Piece) (ws : List (List ℕ)) → length es ≡ length gs → length es ≡ length ps → length es ≡ length ws →
    length (explained_masks o m done es gs ps ws) ≡ length es
unfolding explained_masks
masks-count o m done [] gs ps ws a b c = refl
masks-count o m done (e ∷ es) [] ps ws a b c = absurd (omega (arith, a))
masks-count o m done (e ∷ es) (g ∷ gs) [] ws a b c = absurd (omega (arith, b))
masks-count o m done (e ∷ es) (g ∷ gs) (p ∷ ps) [] a b c = absurd (omega (arith, c))
masks-count o m done (e ∷ es) (g ∷ gs) (p ∷ ps) (w ∷ ws) a b c =
    ap suc (masks-count o m (plus o done (poly_at o (explained_mask o m done e es p w) g)) es gs ps ws (omega (arith, a)) (omega (arith, b)) (omega (arith, c)))

-- wires of one length, of elements
wires-are : (o : Ops) (l : ℕ) (ws : List (List ℕ)) → All (λ w. length w ≡ l) ws → All (AreElements o.size) ws → AreListsOf o l ws
wires-are o l [] same low = tt
wires-are o l (w ∷ ws) same low =
    (All-head (λ t. length t ≡ l) w ws same, All-head (AreElements o.size) w ws low, wires-are o l ws (All-tail (λ t. length t ≡ l) w ws same) (All-tail (AreElements o.size) w ws low))

module _ (o : Ops) (field : IsField o) (two : plus o 1 1 ≢ 0) (job : ExplainJob) (fit : ExplainJobFits o.size job) where
  pieces-count : length (pieces_given job.plain) ≡ length job.plain
  pieces-count = length-map job.plain _

  -- they have the view and the endpoints
  pub own-explain : AreListsOf o (suc (width_of job.wires)) (masks_over o job) × (view_of o job.eps (masks_over o job) job.challenges (pieces_given job.plain) ≡ view_given job)
      × (later_endpoints o (masks_over o job) ≡ job.endpoints)
  own-explain =
      views_are_explained o field job.eps (width_of job.wires) (view_given job) job.endpoints job.challenges (pieces_given job.plain) fit.wires.long two fit.mu
      fit.endpoints.elements (wires-are o (width_of job.wires) job.wires fit.wires.same fit.wires.elements)
      (omega (arith, fit.wires.count, fit.endpoints.count, fit.plain.some)) (fit.wires.count ∙ sym fit.challenges.count) (fit.wires.count ∙ sym pieces-count)

  pub own-count : length (masks_over o job) ≡ length job.plain
  own-count =
      masks-count o _ 0 _ job.challenges (pieces_given job.plain) job.wires
      (omega (arith, fit.endpoints.count, fit.challenges.count, fit.plain.some)) (omega (arith, fit.endpoints.count, pieces-count, fit.plain.some))
      (omega (arith, fit.endpoints.count, fit.wires.count, fit.plain.some))
      ∙ omega (arith, fit.endpoints.count, fit.plain.some)

  -- and no others do
  pub own-only : (ts : List (List ℕ)) → length ts ≡ length job.plain → AreListsOf o (suc (width_of job.wires)) ts →
      view_of o job.eps ts job.challenges (pieces_given job.plain) ≡ view_given job → later_endpoints o ts ≡ job.endpoints → ts ≡ masks_over o job
  own-only ts count are view ends =
      masks_are_told o field job.eps (suc (width_of job.wires)) ts (masks_over o job) job.challenges (pieces_given job.plain) (omega (arith, fit.wires.long)) two
      (count ∙ sym fit.challenges.count) (count ∙ sym pieces-count) (own-count ∙ sym count) are own-explain.0
      (view ∙ sym own-explain.1) (ends ∙ sym own-explain.2)

-- ---- elements, by their numbers

module _ {X : Type 0} (number : X → ℕ) where
  rows-long : (l : ℕ) (rows : List (List X)) → All (λ w. length w ≡ l) (rows_in number rows) → All (λ row. length row ≡ l) rows
  rows-long l [] all = All-nil (λ row. length row ≡ l)
  rows-long l (row ∷ rows) all =
      let P = λ (w : List ℕ). length w ≡ l in
      All-cons (λ r. length r ≡ l) row rows (sym (length-map row number) ∙ All-head P (map number row) (rows_in number rows) all)
      (rows-long l rows (All-tail P (map number row) (rows_in number rows) all))

  rows-width : (rows : List (List X)) → width_of (rows_in number rows) ≡ width_of rows
  rows-width [] = refl
  rows-width (row ∷ rows) = length-map row number

  module _ (ps : List (PlainPiece X)) (gs es : List X) (v : RealView X) (job : ExplainJob)
      (pieces : pieces_in number ps ≡ pieces_given job.plain) (challenges : map number gs ≡ job.challenges)
      (wires : rows_in number v.wires ≡ job.wires) (ends : map number es ≡ job.endpoints) where
    wires-as_many : length v.wires ≡ length job.wires
    wires-as_many = sym (length-map v.wires (map number)) ∙ ap length wires

    width-same : width_of v.wires ≡ width_of job.wires
    width-same = sym (rows-width v.wires) ∙ ap width_of wires

    -- they fit together
    pub view-fits : (size : ℕ) → ExplainJobFits size job → ViewFits ps gs v es
    view-fits size fit =
        let count : length v.wires ≡ length job.plain = wires-as_many ∙ fit.wires.count in
        let as_many : length ps ≡ length job.plain = sym (length-map ps _) ∙ ap length pieces ∙ length-map job.plain _ in
        let drawn : length gs ≡ length job.plain = sym (length-map gs number) ∙ ap length challenges ∙ fit.challenges.count in
        let later : length es ≡ length job.endpoints = sym (length-map es number) ∙ ap length ends in
        record {
          some = omega (arith, count, fit.plain.some);
          pieces = count ∙ sym as_many;
          challenges = count ∙ sym drawn;
          ends = omega (arith, count, later, fit.endpoints.count, fit.plain.some);
          long = omega (arith, width-same, fit.wires.long);
          same = subst (λ l. All (λ row. length row ≡ l) v.wires) (sym width-same)
              (rows-long (width_of job.wires) v.wires (subst (All (λ w. length w ≡ width_of job.wires)) (sym wires) fit.wires.same));
        }

    -- the only masks with what the elements ask are the job's
    pub found-own : (o : Ops) (field : IsField o) (two : plus o 1 1 ≢ 0) (fit : ExplainJobFits o.size job) (eps : ℕ) (found : List (List ℕ)) →
        eps ≡ job.eps → number v.mu_tilde ≡ job.mu →
        ((ts : List (List ℕ)) → length ts ≡ length v.wires → AreListsOf o (suc (width_of v.wires)) ts →
        view_of o eps ts (map number gs) (pieces_in number ps) ≡ record { mu = number v.mu_tilde; wires = rows_in number v.wires } →
        later_endpoints o ts ≡ map number es → ts ≡ found) →
        found ≡ masks_over o job
    found-own o field two fit eps found is_eps is_mu only =
        let own = masks_over o job in
        let told = own-explain o field two job fit in
        let seen : view_of o eps own (map number gs) (pieces_in number ps) ≡ view_of o job.eps own job.challenges (pieces_given job.plain) =
        rw (is_eps, challenges, pieces) refl in
        let asked : record { mu = number v.mu_tilde; wires = rows_in number v.wires } ≡ view_given job =
        λ i. record { mu = is_mu i; wires = wires i } in
        sym (only own (own-count o field two job fit ∙ sym (wires-as_many ∙ fit.wires.count))
        (subst (λ l. AreListsOf o (suc l) own) (sym width-same) told.0)
        (seen ∙ told.1 ∙ sym asked) (told.2 ∙ sym ends))
