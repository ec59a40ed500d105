-- What a call of a prover has opened, from what its parts leave.
use Rattle.std.specs.Prelude.{OnOk, OnErr}
use Rattle.std.proofs.Common.{Result, Ok, Err, ◌≡◌, ℕ, All, List, [], ◌∷◌, ◌++◌, length, map, replicate, flat_map, sym, ◌∙◌, ap, subst, refl, arith, append_assoc}
use Rattle.std.proofs.lemmas.List.Elements.{All-nil, All-cons, All-append}
use Rattle.sc_definitions.specs.Ring.{Ops}
use Rattle.sc_definitions.specs.Events.{Extension}
use Rattle.sc_definitions.specs.Transcript.{sent}
use Rattle.sc_definitions.specs.Statements.{Statement, claims, arity_of, true_value}
use Rattle.sc_challenger.specs.Parties.{Party, Appends}
use Rattle.sc_layout.specs.Requests.{Counts, Values, values}
use Rattle.sc_layout.specs.Openings.{Opened, opened, opened_statements, current_at, next_at, Recorded, statements_of, HaveArity, AreTrue, drawn_point, point_events, Laid, laid_at, Opens, OpensVirtual}
use Rattle.sc_layout.specs.Books.{GainsConcrete, GainsVirtual}
use Rattle.sc_layout.proofs.BookLaws.{all-between, all-claims, concrete-more, virtual-more}

-- ---- what holds of each statement holds of those of a greater book

module _ (P : Statement → Type 0) (before after : Recorded) where
  gained-virtual : (s : Statement) → GainsVirtual s before after → P s → All P (statements_of before) → All P (statements_of after)
  gained-virtual s gains here all =
      let is : statements_of after ≡ statements_of before ++ s ∷ [] =
      ap (λ l. flat_map opened_statements l ++ after.virtual) gains.concrete ∙ ap (λ l. flat_map opened_statements before.concrete ++ l) gains.virtual ∙ virtual-more before.concrete before.virtual s in
      subst (All P) (sym is) (All-append P (statements_of before) (s ∷ []) all (All-cons P s [] here (All-nil P)))

  gained-concrete : (x : Opened) → GainsConcrete x before after → All P (opened_statements x) → All P (statements_of before) → All P (statements_of after)
  gained-concrete x gains here all =
      let is : statements_of after ≡ flat_map opened_statements before.concrete ++ opened_statements x ++ before.virtual =
      ap (λ l. flat_map opened_statements l ++ after.virtual) gains.concrete ∙ ap (λ l. flat_map opened_statements (before.concrete ++ x ∷ []) ++ l) gains.virtual
      ∙ concrete-more before.concrete x before.virtual in
      subst (All P) (sym is) (all-between P (flat_map opened_statements before.concrete) (opened_statements x) before.virtual all here)

  -- by the answer of a call that adds to the book, or leaves it as it was
  all-virtual : {X E : Type 0} (s : Statement) (result : Result X E) → OnOk result (GainsVirtual s before after) → OnErr result (after ≡ before) → P s →
      All P (statements_of before) → All P (statements_of after)
  all-virtual s (Ok x) gains same here all = gained-virtual s gains here all
  all-virtual s (Err e) gains same here all = subst (λ b. All P (statements_of b)) (sym same) all

  all-concrete : {X E : Type 0} (x : Opened) (result : Result X E) → OnOk result (GainsConcrete x before after) → OnErr result (after ≡ before) →
      All P (opened_statements x) → All P (statements_of before) → All P (statements_of after)
  all-concrete x (Ok y) gains same here all = gained-concrete x gains here all
  all-concrete x (Err e) gains same here all = subst (λ b. All P (statements_of b)) (sym same) all

-- what holds of the values of an opening holds of all that it claims
all-opened : (P : Statement → Type 0) (x : Opened) (zs : List ℕ) (asked : Counts) (v w : ℕ) → x.point ≡ zs → x.current ≡ replicate asked.current v → x.next ≡ replicate asked.next w →
    P (claims (current_at zs) v) → P (claims (next_at zs) w) → All P (opened_statements x)
all-opened P x zs asked v w at currents nexts here there =
    let is : opened_statements x ≡ map (claims (current_at zs)) (replicate asked.current v) ++ map (claims (next_at zs)) (replicate asked.next w) =
    ap (λ p. map (claims (current_at p)) x.current ++ map (claims (next_at p)) x.next) at
    ∙ ap (λ l. map (claims (current_at zs)) l ++ map (claims (next_at zs)) x.next) currents ∙ ap (λ l. map (claims (current_at zs)) (replicate asked.current v) ++ map (claims (next_at zs)) l) nexts in
    subst (All P) (sym is)
    (All-append P (map (claims (current_at zs)) (replicate asked.current v)) (map (claims (next_at zs)) (replicate asked.next w))
    (all-claims P (current_at zs) v asked.current here) (all-claims P (next_at zs) w asked.next there))

module _ {X E : Type 0} (o : Ops) (n : ℕ) (f : ℕ → ℕ) (zs : List ℕ) (size : length zs ≡ n) (before after : Recorded) (result : Result X E) (same : OnErr result (after ≡ before)) where
  module _ (v : ℕ) (gains : OnOk result (GainsVirtual (claims (current_at zs) v) before after)) where
    pub arity-virtual : HaveArity n (statements_of before) → HaveArity n (statements_of after)
    arity-virtual all = all-virtual (λ (s : Statement). arity_of n s.kind ≡ n) before after (claims (current_at zs) v) result gains same size all

    pub true-virtual : v ≡ true_value o n f (current_at zs) → AreTrue o n f (statements_of before) → AreTrue o n f (statements_of after)
    true-virtual is all = all-virtual (λ (s : Statement). true_value o n f s.kind ≡ s.claimed) before after (claims (current_at zs) v) result gains same (sym is) all

  module _ (x : Opened) (asked : Counts) (at : x.point ≡ zs) (currents : x.current ≡ replicate asked.current (true_value o n f (current_at zs)))
      (nexts : x.next ≡ replicate asked.next (true_value o n f (next_at zs))) (gains : OnOk result (GainsConcrete x before after)) where
    pub arity-concrete : HaveArity n (statements_of before) → HaveArity n (statements_of after)
    arity-concrete all =
        let P : Statement → Type 0 = λ s. arity_of n s.kind ≡ n in
        all-concrete P before after x result gains same (all-opened P x zs asked _ _ at currents nexts size (omega (arith, size))) all

    pub true-concrete : AreTrue o n f (statements_of before) → AreTrue o n f (statements_of after)
    true-concrete all =
        let P : Statement → Type 0 = λ s. true_value o n f s.kind ≡ s.claimed in
        all-concrete P before after x result gains same (all-opened P x zs asked _ _ at currents nexts refl refl) all

-- ---- what was opened

module _ (o : Ops) (E : Extension) (p p₁ p₂ : Party) (l l' : Laid) (n r r' : ℕ) (zs : List ℕ) (size : n ≡ l.variables) (drawn : zs ≡ drawn_point p.rules E p.history n)
    (point : Appends (point_events E n) r p p₁) where
  point-is : zs ≡ drawn_point p.rules E p.history l.variables
  point-is = drawn ∙ ap (drawn_point p.rules E p.history) size

  grown : (values : List ℕ) → Appends (sent E values) r' p₁ p₂ → p₂.history ≡ p.history ++ (point_events E l.variables ++ sent E values)
  grown values observed =
      observed.history ∙ ap (λ t. t ++ sent E values) (point.history ∙ ap (λ k. p.history ++ point_events E k) size) ∙ append_assoc p.history (point_events E l.variables) (sent E values)

  pub opens-virtual : (v : ℕ) → Appends (sent E (v ∷ [])) r' p₁ p₂ → GainsVirtual (claims (current_at zs) v) l.recorded l'.recorded →
      v ≡ true_value o l.variables l.rows (current_at zs) → OpensVirtual o E v (laid_at p l) (laid_at p₂ l')
  opens-virtual v observed gains is = record {
    truth = is ∙ ap (λ ys. true_value o l.variables l.rows (current_at ys)) point-is;
    adds = record {
      history = grown (v ∷ []) observed;
      concrete = gains.concrete;
      virtual = gains.virtual ∙ ap (λ ys. l.recorded.virtual ++ claims (current_at ys) v ∷ []) point-is;
    };
  }

  pub opens-concrete : (x : Opened) (asked : Counts) (v : Values) → x.point ≡ zs → v.current ≡ x.current → v.next ≡ x.next →
      x.current ≡ replicate asked.current (true_value o l.variables l.rows (current_at zs)) → x.next ≡ replicate asked.next (true_value o l.variables l.rows (next_at zs)) →
      Appends (sent E (x.current ++ x.next)) r' p₁ p₂ → GainsConcrete x l.recorded l'.recorded → Opens o E asked v (laid_at p l) (laid_at p₂ l')
  opens-concrete x asked v at same_current same_next currents nexts observed gains =
      let ys = drawn_point p.rules E p.history l.variables in
      let current_is = same_current ∙ currents ∙ ap (λ q. replicate asked.current (true_value o l.variables l.rows (current_at q))) point-is in
      let next_is = same_next ∙ nexts ∙ ap (λ q. replicate asked.next (true_value o l.variables l.rows (next_at q))) point-is in
      record {
        truth = ap (λ vs. values vs v.next) current_is ∙ ap (values (replicate asked.current (true_value o l.variables l.rows (current_at ys)))) next_is;
        adds = record {
          point = refl;
          history = grown (x.current ++ x.next) observed
              ∙ ap (λ t. p.history ++ (point_events E l.variables ++ sent E t)) (ap (λ t. t ++ x.next) (sym same_current) ∙ ap (λ t. v.current ++ t) (sym same_next));
          concrete = gains.concrete
              ∙ ap (λ t. l.recorded.concrete ++ t ∷ [])
              (ap (λ z. opened z x.current x.next) (at ∙ point-is) ∙ ap (λ t. opened ys t x.next) (sym same_current) ∙ ap (opened ys v.current) (sym same_next));
          virtual = gains.virtual;
        };
      }
