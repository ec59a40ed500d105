-- Tables with weights that are the same at each row, and what rounds on them are.
use Rattle.std.proofs.Common.{◌≡◌, ℕ, zero, suc, ◌+◌, ◌*◌, ◌^◌, ◌<◌, List, [], ◌∷◌, ◌++◌, length, map, refl, sym, ◌∙◌, ap, subst, arith, length-append}
use Rattle.std.proofs.Math.Nat.{pow-suc}
use Rattle.sc_definitions.specs.declared.events.Event.{Event}
use Rattle.sc_definitions.specs.Ring.{Ops, IsRing, plus}
use Rattle.sc_definitions.specs.Tables.{evaluation, prefix, inner_product, folded_in, folded_by}
use Rattle.sc_definitions.specs.Messages.{message_first, message_leading}
use Rattle.sc_definitions.specs.Transcript.{Round, round_events, challenge}
use Rattle.sc_definitions.specs.Channels.{Channel, IsBuilt}
use Rattle.sc_definitions.proofs.PlacedLaws.{folded_by-append}
use Rattle.sc_definitions.proofs.PlayedLaws.{message-same, folded_in-same}
use Rattle.sc_definitions.proofs.SameTables.{inner_product-same, folded_by-same}
use Rattle.sc_soundness.specs.Merged.{WeightedTable, merged_claim, honest_merged, merged_inner, merged_message_first, merged_message_leading, merged_message, bound_table}
use Rattle.sc_soundness.proofs.MergedLaws.{merged-message, merged-inner}
use Rattle.sc_merged.specs.SameRows.{HaveSameRows}

-- ---- the relation

pub rows-self : (n : ℕ) (ps : List WeightedTable) → HaveSameRows n ps ps
rows-self n [] = tt
rows-self n (p ∷ ps) = (record { table = λ b low. refl; weights = λ b low. refl }, rows-self n ps)

pub rows-back : (n : ℕ) (ps qs : List WeightedTable) → HaveSameRows n ps qs → HaveSameRows n qs ps
rows-back n [] [] same = tt
rows-back n [] (q ∷ qs) same = absurd same
rows-back n (p ∷ ps) [] same = absurd same
rows-back n (p ∷ ps) (q ∷ qs) same =
    (record { table = λ b low. sym (same.0.table b low); weights = λ b low. sym (same.0.weights b low) }, rows-back n ps qs same.1)

pub rows-chain : (n : ℕ) (ps qs us : List WeightedTable) → HaveSameRows n ps qs → HaveSameRows n qs us → HaveSameRows n ps us
rows-chain n [] [] [] one two = tt
rows-chain n [] [] (u ∷ us) one two = absurd two
rows-chain n [] (q ∷ qs) us one two = absurd one
rows-chain n (p ∷ ps) [] us one two = absurd one
rows-chain n (p ∷ ps) (q ∷ qs) [] one two = absurd two
rows-chain n (p ∷ ps) (q ∷ qs) (u ∷ us) one two = (
  record { table = λ b low. one.0.table b low ∙ two.0.table b low; weights = λ b low. one.0.weights b low ∙ two.0.weights b low },
  rows-chain n ps qs us one.1 two.1,
)

-- ---- bound tables

-- with no challenge bound a table is as it was
pub bound-nothing : (o : Ops) (m : ℕ) (ps : List WeightedTable) → map (bound_table o [] m) ps ≡ ps
unfolding folded_by
bound-nothing o m [] = refl
bound-nothing o m (p ∷ ps) = ap (λ t. p ∷ t) (bound-nothing o m ps)

pub bound-one : (o : Ops) (r m : ℕ) (f : ℕ → ℕ) → folded_by evaluation prefix o (r ∷ []) m f ≡ folded_in evaluation prefix o m r f
unfolding folded_by
bound-one o r m f = let same : length {A = ℕ} [] + m ≡ m = omega arith in ap (λ k. folded_in evaluation prefix o k r f) same

-- one challenge more
pub bound-next : (o : Ops) (rs : List ℕ) (r m : ℕ) (ps qs us : List WeightedTable) → HaveSameRows (suc m) qs (map (bound_table o rs (suc m)) ps) →
    HaveSameRows m us (map (bound_table o (r ∷ []) m) qs) → HaveSameRows m us (map (bound_table o (rs ++ r ∷ []) m) ps)
bound-next o rs r m [] [] [] so_far one = tt
bound-next o rs r m [] [] (u ∷ us) so_far one = absurd one
bound-next o rs r m [] (q ∷ qs) us so_far one = absurd so_far
bound-next o rs r m (p ∷ ps) [] us so_far one = absurd so_far
bound-next o rs r m (p ∷ ps) (q ∷ qs) [] so_far one = absurd one
bound-next o rs r m (p ∷ ps) (q ∷ qs) (u ∷ us) so_far one = (
  record {
    table = λ b low. one.0.table b low ∙ ap (λ f. f b) (bound-one o r m q.table) ∙ folded_in-same evaluation prefix o m r b _ _ low so_far.0.table
        ∙ ap (λ f. f b) (sym (folded_by-append evaluation prefix o rs r m p.table));
    weights = λ b low. one.0.weights b low ∙ ap (λ f. f b) (bound-one o r m q.weights) ∙ folded_in-same evaluation prefix o m r b _ _ low so_far.0.weights
        ∙ ap (λ f. f b) (sym (folded_by-append evaluation prefix o rs r m p.weights));
  },
  bound-next o rs r m ps qs us so_far.1 one.1,
)

-- tables that are the same are bound to such ones
pub bound-same : (o : Ops) (rs : List ℕ) (m n : ℕ) (ps qs : List WeightedTable) → length rs + m ≡ n → HaveSameRows n ps qs →
    HaveSameRows m (map (bound_table o rs m) ps) (map (bound_table o rs m) qs)
bound-same o rs m n [] [] whole same = tt
bound-same o rs m n [] (q ∷ qs) whole same = absurd same
bound-same o rs m n (p ∷ ps) [] whole same = absurd same
bound-same o rs m n (p ∷ ps) (q ∷ qs) whole same = (
  record {
    table = folded_by-same evaluation prefix o rs m p.table q.table (λ b low. same.0.table b (subst (λ k. b < 2 ^ k) whole low));
    weights = folded_by-same evaluation prefix o rs m p.weights q.weights (λ b low. same.0.weights b (subst (λ k. b < 2 ^ k) whole low));
  },
  bound-same o rs m n ps qs whole same.1,
)

-- ---- sums and messages

pub inner_product-rows : (o : Ops) (n : ℕ) (ps qs : List WeightedTable) → HaveSameRows n ps qs → merged_inner o n ps ≡ merged_inner o n qs
unfolding merged_inner
inner_product-rows o n [] [] same = refl
inner_product-rows o n [] (q ∷ qs) same = absurd same
inner_product-rows o n (p ∷ ps) [] same = absurd same
inner_product-rows o n (p ∷ ps) (q ∷ qs) same =
    ap (λ t. plus o t (merged_inner o n ps)) (inner_product-same o n p.table q.table p.weights q.weights same.0.table same.0.weights)
    ∙ ap (plus o (inner_product o n q.table q.weights)) (inner_product-rows o n ps qs same.1)

-- the two values of a list
first-of : (a b c d : ℕ) → a ∷ b ∷ [] ≡ c ∷ d ∷ [] → a ≡ c
first-of a b c d is = cc

second-of : (a b c d : ℕ) → a ∷ b ∷ [] ≡ c ∷ d ∷ [] → b ≡ d
second-of a b c d is = cc

firsts : (o : Ops) (m : ℕ) (ps qs : List WeightedTable) → HaveSameRows (suc m) ps qs → merged_message_first o (2 ^ m) ps ≡ merged_message_first o (2 ^ m) qs
unfolding merged_message_first
firsts o m [] [] same = refl
firsts o m [] (q ∷ qs) same = absurd same
firsts o m (p ∷ ps) [] same = absurd same
firsts o m (p ∷ ps) (q ∷ qs) same =
    let twice : 2 ^ suc m ≡ 2 ^ m * 2 = pow-suc 2 m in
    let pair = message-same evaluation prefix o (2 ^ m) p.table q.table p.weights q.weights (λ b low. same.0.table b (omega (arith, low, twice)))
    (λ b low. same.0.weights b (omega (arith, low, twice))) in
    ap (λ t. plus o t (merged_message_first o (2 ^ m) ps)) (first-of _ _ _ _ pair)
    ∙ ap (plus o (message_first evaluation prefix o (2 ^ m) q.table q.weights)) (firsts o m ps qs same.1)

lasts : (o : Ops) (m : ℕ) (ps qs : List WeightedTable) → HaveSameRows (suc m) ps qs → merged_message_leading o (2 ^ m) ps ≡ merged_message_leading o (2 ^ m) qs
unfolding merged_message_leading
lasts o m [] [] same = refl
lasts o m [] (q ∷ qs) same = absurd same
lasts o m (p ∷ ps) [] same = absurd same
lasts o m (p ∷ ps) (q ∷ qs) same =
    let twice : 2 ^ suc m ≡ 2 ^ m * 2 = pow-suc 2 m in
    let pair = message-same evaluation prefix o (2 ^ m) p.table q.table p.weights q.weights (λ b low. same.0.table b (omega (arith, low, twice)))
    (λ b low. same.0.weights b (omega (arith, low, twice))) in
    ap (λ t. plus o t (merged_message_leading o (2 ^ m) ps)) (second-of _ _ _ _ pair)
    ∙ ap (plus o (message_leading evaluation prefix o (2 ^ m) q.table q.weights)) (lasts o m ps qs same.1)

pub message-rows : (o : Ops) (m : ℕ) (ps qs : List WeightedTable) → HaveSameRows (suc m) ps qs → merged_message o (2 ^ m) ps ≡ merged_message o (2 ^ m) qs
message-rows o m ps qs same =
    ap (λ x. x ∷ merged_message_leading o (2 ^ m) ps ∷ []) (firsts o m ps qs same) ∙ ap (λ x. merged_message_first o (2 ^ m) qs ∷ x ∷ []) (lasts o m ps qs same)

-- ---- rounds

module _ (o : Ops) (ring : IsRing o) where
  -- tables as they stand give the true claim and the honest message
  pub claim-stands : (ps qs : List WeightedTable) (rs : List ℕ) (m : ℕ) → HaveSameRows m qs (map (bound_table o rs m) ps) → merged_inner o m qs ≡ merged_claim o ps rs m
  claim-stands ps qs rs m same = inner_product-rows o m qs (map (bound_table o rs m) ps) same ∙ sym (merged-inner o ring ps rs m)

  pub honest-stands : (ps qs : List WeightedTable) (rs : List ℕ) (m : ℕ) → HaveSameRows (suc m) qs (map (bound_table o rs (suc m)) ps) →
      merged_message o (2 ^ m) qs ≡ honest_merged o ps rs m
  honest-stands ps qs rs m same = message-rows o m qs (map (bound_table o rs (suc m)) ps) same ∙ sym (merged-message o ring ps rs m)

  -- so do tables that are the same
  pub claim-same : (ps qs : List WeightedTable) (n : ℕ) (rs : List ℕ) (m : ℕ) → HaveSameRows n ps qs → length rs + m ≡ n → merged_claim o ps rs m ≡ merged_claim o qs rs m
  claim-same ps qs n rs m same whole =
      merged-inner o ring ps rs m ∙ claim-stands qs (map (bound_table o rs m) ps) rs m (bound-same o rs m n ps qs whole same)

  pub honest-same : (ps qs : List WeightedTable) (n : ℕ) (rs : List ℕ) (m : ℕ) → HaveSameRows n ps qs → length rs + suc m ≡ n →
      honest_merged o ps rs m ≡ honest_merged o qs rs m
  honest-same ps qs n rs m same whole =
      merged-message o ring ps rs m ∙ honest-stands qs (map (bound_table o rs (suc m)) ps) rs m (bound-same o rs (suc m) n ps qs whole same)

  -- and what is built on one of them is built on the other
  pub built-same : (ps qs : List WeightedTable) (n : ℕ) → HaveSameRows n ps qs → (c : Channel) (h : List Event) (rs : List ℕ) (k : ℕ) (rounds : List Round) → length rs + k ≡ n →
      IsBuilt (honest_merged o ps) c h rs k rounds → IsBuilt (honest_merged o qs) c h rs k rounds
  built-same ps qs n same c h rs k [] whole b = tt
  built-same ps qs n same c h rs zero (r ∷ rounds) whole b = b
  built-same ps qs n same c h rs (suc k) (r ∷ rounds) whole b =
      let x = challenge c.rules c.extension c.bits h r in (
        b.0 ∙ honest-same ps qs n rs k same whole,
        b.1,
        built-same ps qs n same c (h ++ round_events c.extension c.bits r) (rs ++ x ∷ []) k rounds (omega (arith, whole, length-append rs (x ∷ []))) b.2,
      )
