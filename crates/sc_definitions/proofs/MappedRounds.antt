-- What a round sends and binds, as a ring map takes it to another field.
use Rattle.std.proofs.Common.{◌≡◌, ℕ, zero, suc, ◌+◌, ◌*◌, ◌^◌, ◌<◌, List, [], ◌∷◌, map, slice_index, refl, ap, sym, ◌∙◌, subst}
use Rattle.std.proofs.Math.Path.{fun_ext}
use Rattle.sc_definitions.specs.Ring.{Ops, IsRing, IsRingMap, plus, times, minus, IsRepresentation}
use Rattle.sc_definitions.specs.Tables.{Basis, evaluation, projective, Order, prefix, suffix, entries, rows_of, sum_below, inner_product, bound, bound_low, bound_coefficients, folded_in}
use Rattle.sc_definitions.specs.Messages.{low_entry, high_entry, first_term, leading_term, message_first, message_leading, message_of}
use Rattle.sc_definitions.specs.Polynomials.{poly_at}
use Rattle.sc_definitions.specs.Rounds.{sent_pair, sent_polynomial, next_claim}
use Rattle.sc_definitions.proofs.RingLaws.{size_pos, plus_below, times_below, element_below}
use Rattle.sc_definitions.proofs.Maps.{map-minus}
use Rattle.sc_definitions.proofs.Sums.{element-sum}

module _ (a b : Ops) (ra : IsRing a) (rb : IsRing b) (h : ℕ → ℕ) (m : IsRingMap a b h) where
  -- each entry is an element
  abbrev pub AreBelow : (ℕ → ℕ) → Type 0
  AreBelow f = (k : ℕ) → f k < a.size

  -- the table of the images
  abbrev pub image : (ℕ → ℕ) → ℕ → ℕ
  image f k = h (f k)

  sum_below_size : (n : ℕ) (f : ℕ → ℕ) → sum_below a n f < a.size
  unfolding sum_below
  sum_below_size zero f = size_pos a ra
  sum_below_size (suc n) f = plus_below a ra (sum_below a n f) (f n)

  map-sum : (n : ℕ) (f : ℕ → ℕ) → AreBelow f → h (sum_below a n f) ≡ sum_below b n (image f)
  unfolding sum_below
  map-sum zero f low = m.zero_kept
  map-sum (suc n) f low =
      m.plus_kept (sum_below a n f) (f n) (sum_below_size n f) (low n) ∙ ap (λ s. plus b s (h (f n))) (map-sum n f low)

  -- the entries of a list
  pub mapped_entries : {X : Type 0} (number : X → ℕ) (xs : List X) (k : ℕ) → entries (λ x. h (number x)) xs k ≡ image (entries number xs) k
  unfolding entries
  mapped_entries number [] k = sym m.zero_kept
  mapped_entries number (x ∷ xs) zero = refl
  mapped_entries number (x ∷ xs) (suc k) = mapped_entries number xs k

  pub mapped : {X : Type 0} (number : X → ℕ) (xs : List X) → entries (λ x. h (number x)) xs ≡ image (entries number xs)
  mapped number xs = fun_ext (mapped_entries number xs)

  pub below_entries : {X : Type 0} (number : X → ℕ) → ((x : X) → number x < a.size) → (xs : List X) → AreBelow (entries number xs)
  unfolding entries
  below_entries number low [] k = size_pos a ra
  below_entries number low (x ∷ xs) zero = low x
  below_entries number low (x ∷ xs) (suc k) = below_entries number low xs k

  mapped_rows : (ns : List ℕ) (k : ℕ) → rows_of (map h ns) k ≡ h (rows_of ns k)
  unfolding rows_of
  mapped_rows [] k = sym m.zero_kept
  mapped_rows (n ∷ ns) zero = refl
  mapped_rows (n ∷ ns) (suc k) = mapped_rows ns k

  -- the entries of a list of numbers
  pub image_rows : (ns : List ℕ) → rows_of (map h ns) ≡ image (rows_of ns)
  image_rows ns = fun_ext (mapped_rows ns)

  low_image : (order : Order) (f : ℕ → ℕ) (k : ℕ) → low_entry order (image f) k ≡ h (low_entry order f k)
  unfolding low_entry
  low_image prefix f k = refl
  low_image suffix f k = refl

  high_image : (order : Order) (half : ℕ) (f : ℕ → ℕ) (k : ℕ) → high_entry order half (image f) k ≡ h (high_entry order half f k)
  unfolding high_entry
  high_image prefix half f k = refl
  high_image suffix half f k = refl

  low_below : (order : Order) (f : ℕ → ℕ) → AreBelow f → (k : ℕ) → low_entry order f k < a.size
  unfolding low_entry
  low_below prefix f low k = low k
  low_below suffix f low k = low (2 * k)

  high_below : (order : Order) (half : ℕ) (f : ℕ → ℕ) → AreBelow f → (k : ℕ) → high_entry order half f k < a.size
  unfolding high_entry
  high_below prefix half f low k = low (half + k)
  high_below suffix half f low k = low (2 * k + 1)

  difference_image : (order : Order) (half : ℕ) (f : ℕ → ℕ) → AreBelow f → (k : ℕ) →
      h (minus a (high_entry order half f k) (low_entry order f k)) ≡ minus b (high_entry order half (image f) k) (low_entry order (image f) k)
  difference_image order half f low k =
      map-minus a b ra rb h m (high_entry order half f k) (low_entry order f k) (high_below order half f low k) (low_below order f low k)
      ∙ ap (λ x. minus b x (h (low_entry order f k))) (sym (high_image order half f k))
      ∙ ap (minus b (high_entry order half (image f) k)) (sym (low_image order f k))

  sum_image : (order : Order) (half : ℕ) (f : ℕ → ℕ) → AreBelow f → (k : ℕ) →
      h (plus a (low_entry order f k) (high_entry order half f k)) ≡ plus b (low_entry order (image f) k) (high_entry order half (image f) k)
  sum_image order half f low k =
      m.plus_kept (low_entry order f k) (high_entry order half f k) (low_below order f low k) (high_below order half f low k)
      ∙ ap (λ x. plus b x (h (high_entry order half f k))) (sym (low_image order f k))
      ∙ ap (plus b (low_entry order (image f) k)) (sym (high_image order half f k))

  first_image : (basis : Basis) (order : Order) (half : ℕ) (f w : ℕ → ℕ) → AreBelow f → AreBelow w → (k : ℕ) →
      h (first_term basis order a half f w k) ≡ first_term basis order b half (image f) (image w) k
  unfolding first_term
  first_image evaluation order half f w lf lw k =
      m.times_kept (low_entry order f k) (low_entry order w k) (low_below order f lf k) (low_below order w lw k)
      ∙ ap (λ x. times b x (h (low_entry order w k))) (sym (low_image order f k))
      ∙ ap (times b (low_entry order (image f) k)) (sym (low_image order w k))
  first_image projective order half f w lf lw k =
      m.times_kept (plus a (low_entry order f k) (high_entry order half f k)) (plus a (low_entry order w k) (high_entry order half w k))
      (plus_below a ra _ _) (plus_below a ra _ _)
      ∙ ap (λ x. times b x (h (plus a (low_entry order w k) (high_entry order half w k)))) (sum_image order half f lf k)
      ∙ ap (times b (plus b (low_entry order (image f) k) (high_entry order half (image f) k))) (sum_image order half w lw k)

  leading_image : (basis : Basis) (order : Order) (half : ℕ) (f w : ℕ → ℕ) → AreBelow f → AreBelow w → (k : ℕ) →
      h (leading_term basis order a half f w k) ≡ leading_term basis order b half (image f) (image w) k
  unfolding leading_term
  leading_image evaluation order half f w lf lw k =
      m.times_kept (minus a (high_entry order half f k) (low_entry order f k)) (minus a (high_entry order half w k) (low_entry order w k))
      (plus_below a ra _ _) (plus_below a ra _ _)
      ∙ ap (λ x. times b x (h (minus a (high_entry order half w k) (low_entry order w k)))) (difference_image order half f lf k)
      ∙ ap (times b (minus b (high_entry order half (image f) k) (low_entry order (image f) k))) (difference_image order half w lw k)
  leading_image projective order half f w lf lw k =
      m.times_kept (high_entry order half f k) (high_entry order half w k) (high_below order half f lf k) (high_below order half w lw k)
      ∙ ap (λ x. times b x (h (high_entry order half w k))) (sym (high_image order half f k))
      ∙ ap (times b (high_entry order half (image f) k)) (sym (high_image order half w k))

  first_below : (basis : Basis) (order : Order) (half : ℕ) (f w : ℕ → ℕ) → AreBelow (first_term basis order a half f w)
  unfolding first_term
  first_below evaluation order half f w k = times_below a ra _ _
  first_below projective order half f w k = times_below a ra _ _

  leading_below : (basis : Basis) (order : Order) (half : ℕ) (f w : ℕ → ℕ) → AreBelow (leading_term basis order a half f w)
  unfolding leading_term
  leading_below evaluation order half f w k = times_below a ra _ _
  leading_below projective order half f w k = times_below a ra _ _

  map-first : (basis : Basis) (order : Order) (half : ℕ) (f w : ℕ → ℕ) → AreBelow f → AreBelow w →
      h (message_first basis order a half f w) ≡ message_first basis order b half (image f) (image w)
  unfolding message_first
  map-first basis order half f w lf lw =
      map-sum half (first_term basis order a half f w) (first_below basis order half f w)
      ∙ ap (sum_below b half) (fun_ext (first_image basis order half f w lf lw))

  map-leading : (basis : Basis) (order : Order) (half : ℕ) (f w : ℕ → ℕ) → AreBelow f → AreBelow w →
      h (message_leading basis order a half f w) ≡ message_leading basis order b half (image f) (image w)
  unfolding message_leading
  map-leading basis order half f w lf lw =
      map-sum half (leading_term basis order a half f w) (leading_below basis order half f w)
      ∙ ap (sum_below b half) (fun_ext (leading_image basis order half f w lf lw))

  -- the message of the images, from that of the entries
  pub image_message : (basis : Basis) (order : Order) (half : ℕ) {f w F W : ℕ → ℕ} {x y X Y : ℕ} → AreBelow f → AreBelow w → F ≡ image f → W ≡ image w →
      X ≡ h x → Y ≡ h y → x ∷ y ∷ [] ≡ message_of basis order a half f w → X ∷ Y ∷ [] ≡ message_of basis order b half F W
  image_message basis order half {f} {w} {F} {x} {Y} lf lw F_is W_is X_is Y_is message =
      ap (λ v. v ∷ Y ∷ []) X_is ∙ ap (λ v. h x ∷ v ∷ []) Y_is
      ∙ ap (λ vs. h (first_of vs) ∷ h (second_of vs) ∷ []) message
      ∙ ap (λ v. v ∷ h (message_leading basis order a half f w) ∷ []) (map-first basis order half f w lf lw)
      ∙ ap (λ v. message_first basis order b half (image f) (image w) ∷ v ∷ []) (map-leading basis order half f w lf lw)
      ∙ ap (λ g. message_of basis order b half g (image w)) (sym F_is) ∙ ap (message_of basis order b half F) (sym W_is)
    where
      first_of : List ℕ → ℕ
      first_of [] = 0
      first_of (v ∷ vs) = v

      second_of : List ℕ → ℕ
      second_of [] = 0
      second_of (v ∷ []) = 0
      second_of (v ∷ (u ∷ us)) = u

  map-line : (lo hi r : ℕ) → lo < a.size → hi < a.size → r < a.size →
      h (plus a lo (times a (minus a hi lo) r)) ≡ plus b (h lo) (times b (minus b (h hi) (h lo)) (h r))
  map-line lo hi r ll lh lr =
      m.plus_kept lo (times a (minus a hi lo) r) ll (times_below a ra _ _)
      ∙ ap (plus b (h lo)) (m.times_kept (minus a hi lo) r (plus_below a ra _ _) lr
      ∙ ap (λ d. times b d (h r)) (map-minus a b ra rb h m hi lo lh ll))

  map-bound : (basis : Basis) (order : Order) (n r : ℕ) (f : ℕ → ℕ) → AreBelow f → r < a.size → (k : ℕ) →
      h (folded_in basis order a n r f k) ≡ folded_in basis order b n (h r) (image f) k
  unfolding bound bound_low bound_coefficients
  map-bound evaluation prefix n r f low lr k = map-line (f k) (f (2 ^ n + k)) r (low k) (low (2 ^ n + k)) lr
  map-bound evaluation suffix n r f low lr k = map-line (f (2 * k)) (f (2 * k + 1)) r (low (2 * k)) (low (2 * k + 1)) lr
  map-bound projective order n r f low lr k =
      m.plus_kept (f k) (times a (f (2 ^ n + k)) r) (low k) (times_below a ra _ _) ∙ ap (plus b (h (f k))) (m.times_kept (f (2 ^ n + k)) r (low (2 ^ n + k)) lr)

  -- the bound table of the images, from that of the entries
  pub image_bound : (basis : Basis) (order : Order) (n r s : ℕ) (f f' F F' : ℕ → ℕ) → AreBelow f → r < a.size → h r ≡ s → F ≡ image f → F' ≡ image f' →
      ((k : ℕ) → k < 2 ^ n → f' k ≡ folded_in basis order a n r f k) → (k : ℕ) → k < 2 ^ n → F' k ≡ folded_in basis order b n s F k
  image_bound basis order n r s f f' F F' low lr r_is F_is F'_is bound_is k in_range =
      ap (λ g. g k) F'_is ∙ ap h (bound_is k in_range) ∙ map-bound basis order n r f low lr k
      ∙ ap (λ t. folded_in basis order b n t (image f) k) r_is ∙ ap (λ g. folded_in basis order b n s g k) (sym F_is)

  map-step : (c r p : ℕ) → c < a.size → r < a.size → p < a.size → h (plus a c (times a r p)) ≡ plus b (h c) (times b (h r) (h p))
  map-step c r p lc lr lp =
      m.plus_kept c (times a r p) lc (times_below a ra r p) ∙ ap (plus b (h c)) (m.times_kept r p lr lp)

  -- a polynomial of three coefficients
  map-three : (c u q r : ℕ) → c < a.size → u < a.size → q < a.size → r < a.size → h (poly_at a (c ∷ u ∷ q ∷ []) r) ≡ poly_at b (h c ∷ h u ∷ h q ∷ []) (h r)
  unfolding poly_at
  map-three c u q r lc lu lq lr =
      let last = plus a q (times a r 0) in
      let last_is : h last ≡ plus b (h q) (times b (h r) 0) =
      map-step q r 0 lq lr (size_pos a ra) ∙ ap (λ v. plus b (h q) (times b (h r) v)) m.zero_kept in
      let rest = plus a u (times a r last) in
      let rest_is : h rest ≡ plus b (h u) (times b (h r) (plus b (h q) (times b (h r) 0))) =
      map-step u r last lu lr (plus_below a ra _ _) ∙ ap (λ v. plus b (h u) (times b (h r) v)) last_is in
      map-step c r rest lc lr (plus_below a ra _ _) ∙ ap (λ v. plus b (h c) (times b (h r) v)) rest_is

  map-next : (basis : Basis) (claim c q r : ℕ) → claim < a.size → c < a.size → q < a.size → r < a.size →
      h (next_claim basis a claim (c ∷ q ∷ []) r) ≡ next_claim basis b (h claim) (h c ∷ h q ∷ []) (h r)
  unfolding next_claim sent_polynomial sent_pair
  map-next evaluation claim c q r l_claim lc lq lr =
      let u = minus a (minus a (minus a claim c) c) q in
      let u_is : h u ≡ minus b (minus b (minus b (h claim) (h c)) (h c)) (h q) =
      map-minus a b ra rb h m (minus a (minus a claim c) c) q (plus_below a ra _ _) lq
      ∙ ap (λ v. minus b v (h q)) (map-minus a b ra rb h m (minus a claim c) c (plus_below a ra _ _) lc
      ∙ ap (λ v. minus b v (h c)) (map-minus a b ra rb h m claim c l_claim lc)) in
      map-three c u q r lc (plus_below a ra _ _) lq lr ∙ ap (λ v. poly_at b (h c ∷ v ∷ h q ∷ []) (h r)) u_is
  map-next projective claim c q r l_claim lc lq lr =
      map-three (minus a claim q) (minus a c claim) q r (plus_below a ra _ _) (plus_below a ra _ _) lq lr
      ∙ ap (λ v. poly_at b (v ∷ h (minus a c claim) ∷ h q ∷ []) (h r)) (map-minus a b ra rb h m claim q l_claim lq)
      ∙ ap (λ v. poly_at b (minus b (h claim) (h q) ∷ v ∷ h q ∷ []) (h r)) (map-minus a b ra rb h m c claim lc l_claim)

  -- the claim after a round of the images, from that of the entries
  pub image_next : (basis : Basis) {claim c q C Q : ℕ} (r s : ℕ) {claim' : ℕ} → claim < a.size → c < a.size → q < a.size → r < a.size → C ≡ h c → Q ≡ h q → h r ≡ s →
      claim' ≡ next_claim basis a claim (c ∷ q ∷ []) r → h claim' ≡ next_claim basis b (h claim) (C ∷ Q ∷ []) s
  image_next basis {claim} {c} {q} {C} r s l_claim lc lq lr C_is Q_is r_is next =
      ap h next ∙ map-next basis claim c q r l_claim lc lq lr ∙ ap (next_claim basis b (h claim) (h c ∷ h q ∷ [])) r_is
      ∙ ap (λ v. next_claim basis b (h claim) (v ∷ h q ∷ []) s) (sym C_is) ∙ ap (λ v. next_claim basis b (h claim) (C ∷ v ∷ []) s) (sym Q_is)

  -- the sum of the products of the images, from that of the entries
  pub image_inner : (n : ℕ) (f w : ℕ → ℕ) → AreBelow f → AreBelow w → h (inner_product a n f w) ≡ inner_product b n (image f) (image w)
  unfolding inner_product
  image_inner n f w lf lw =
      map-sum (2 ^ n) (λ k. times a (f k) (w k)) (λ k. times_below a ra (f k) (w k))
      ∙ ap (sum_below b (2 ^ n)) (fun_ext (λ k. m.times_kept (f k) (w k) (lf k) (lw k)))

  -- lists of the same numbers have the same images
  pub same_images : {X Y : Type 0} (number : X → ℕ) (other : Y → ℕ) (xs : List X) (ys : List Y) → entries number xs ≡ entries other ys →
      entries (λ x. h (number x)) xs ≡ entries (λ y. h (other y)) ys
  same_images number other xs ys same = mapped number xs ∙ ap image same ∙ sym (mapped other ys)

  -- a list of images in a field from which h leads back
  pub there_and_back : {X Y : Type 0} (number : X → ℕ) (represented : Y → ℕ) (there : ℕ → ℕ) (xs : List X) (ys : List Y) →
      ((x : X) → h (there (number x)) ≡ number x) → map represented ys ≡ map (λ x. there (number x)) xs →
      entries (λ y. h (represented y)) ys ≡ entries number xs
  unfolding entries
  there_and_back {X} {Y} number represented there xs ys back same =
      let imaged : List ℕ → ℕ → ℕ = λ ns k. h (slice_index ns k) in
      let read : (X → ℕ) → ℕ → ℕ = λ f. entries f xs in
      mapped represented ys ∙ ap imaged same ∙ sym (mapped (λ x. there (number x)) xs) ∙ ap read (fun_ext back)

-- ---- the claim in a representation

inner_below : (o : Ops) → IsRing o → (n : ℕ) (f w : ℕ → ℕ) → inner_product o n f w < o.size
unfolding inner_product
inner_below o ring n f w =
    let S = sum_below o (2 ^ n) (λ b. times o (f b) (w b)) in
    subst (λ k. k < o.size) (element-sum o ring (2 ^ n) (λ b. times o (f b) (w b))) (element_below o ring S)

-- the claim in the representation, from that of the represented tables
pub represented_sum : (e r : Ops) → IsRing e → (ring : IsRing r) → (from to : ℕ → ℕ) → IsRepresentation e r from to → (n : ℕ) (u v f w : ℕ → ℕ) (sum total : ℕ) →
    ((k : ℕ) → u k < r.size) → ((k : ℕ) → v k < r.size) → f ≡ (λ k. to (u k)) → w ≡ (λ k. to (v k)) →
    sum ≡ inner_product e n f w → total ≡ from sum → total ≡ inner_product r n u v
represented_sum e r ring_e ring from to rep n u v f w sum total u_low v_low f_is w_is true_sum total_is =
    total_is
    ∙ ap from (true_sum ∙ ap (λ g. inner_product e n g w) f_is ∙ ap (inner_product e n (λ k. to (u k))) w_is ∙ sym (image_inner r e ring ring_e to rep.back n u v u_low v_low))
    ∙ rep.forth_back (inner_product r n u v) (inner_below r ring n u v)
