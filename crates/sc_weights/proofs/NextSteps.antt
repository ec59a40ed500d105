-- Successor weights that are added to rows, by halves and by blocks.
use Rattle.std.proofs.Common.{◌≡◌, ℕ, zero, suc, ◌+◌, ◌-◌, ◌*◌, ◌/◌, ◌%◌, ◌^◌, ◌<◌, ◌≤◌, List, [], ◌∷◌, ◌++◌, length, take, drop, if◌then◌else◌, sym, ◌∙◌, ap, refl, subst, arith, ⊎_elim, lt-ltb, le-ltb, length-append}
use Rattle.std.proofs.lemmas.List.{length-take-le, length-drop}
use Rattle.std.proofs.lemmas.Bool.{cases_lt}
use Rattle.std.proofs.lemmas.Nat.{mul-le, pow_pos, div_below}
use Rattle.sc_definitions.specs.Ring.{Ops, IsRing, plus, times, minus}
use Rattle.sc_definitions.specs.Tables.{prefix, entries, equality_weight}
use Rattle.sc_definitions.specs.Shifts.{shifted}
use Rattle.sc_definitions.specs.Statements.{successor_weight, slot_weight}
use Rattle.sc_definitions.proofs.RingLaws.{element-small, times-one, times_assoc}
use Rattle.sc_definitions.proofs.Identity.{atom, nought, unit, ◌⊕◌, ◌⊗◌, ◌⊖◌, Agree, identity}
use Rattle.sc_table.specs.Blocks.{block_weight}
use Rattle.std.proofs.Math.Nat.{mod-lt}
use Rattle.sc_table.proofs.BlockWeights.{block-at, IsSplit, split-weight, blocks-none}
use Rattle.sc_table.proofs.EntryLaws.{entry-take, entry-drop, entry-append_left, entry-append_right}
use Rattle.sc_definitions.proofs.BlockLaws.{equality_weight-append, slot-prefix}
use Rattle.sc_weights.specs.Moved.{moved_up}
use Rattle.sc_weights.proofs.Halves.{before-end, in-end, end-given, last-of}
use Rattle.sc_definitions.proofs.SuccessorLaws.{only_at-here, only_at-elsewhere, successor-parts}

-- ---- rows that are moved up

pub shifted-same : (before before' : ℕ) (f g : ℕ → ℕ) (n b : ℕ) → before ≡ before' → ((k : ℕ) → k < n → f k ≡ g k) → b < n → shifted before f b ≡ shifted before' g b
unfolding shifted
shifted-same before before' f g n zero e same low = e
shifted-same before before' f g n (suc b) e same low = same b (omega (arith, low))

-- after n rows
pub shifted-behind : (before : ℕ) (f : ℕ → ℕ) (n b : ℕ) → 0 < n → shifted before f (n + b) ≡ shifted (f (n - 1)) (λ k. f (n + k)) b
unfolding shifted
shifted-behind before f zero b some = absurd (omega (arith, some))
shifted-behind before f (suc n) zero some =
    let e : suc n + 0 ≡ suc n = omega arith in
    let e' : n ≡ suc n - 1 = omega arith in
    ap (shifted before f) e ∙ ap f e'
shifted-behind before f (suc n) (suc b) some =
    let e : suc n + suc b ≡ suc (suc n + b) = omega arith in
    ap (shifted before f) e

module _ (o : Ops) (ring : IsRing o) where
  -- a scaled table that is moved up
  shifted-times : (scale : ℕ) (f : ℕ → ℕ) (b : ℕ) → shifted 0 (λ k. times o scale (f k)) b ≡ times o scale (shifted 0 f b)
  unfolding shifted Agree
  shifted-times scale f zero = sym (identity o ring (scale ∷ []) (atom 0 ⊗ nought) nought tt tt refl)
  shifted-times scale f (suc b) = refl

  -- the weights w of each half of 2n rows, with what the first coordinate z leaves of a scale, and takes of it
  module _ (z n : ℕ) (w all : ℕ → ℕ) (split : IsSplit o z n w all) (scale : ℕ) where
    pub share-low : (b : ℕ) → b < n → times o (minus o scale (times o scale z)) (w b) ≡ times o scale (all b)
    unfolding Agree
    share-low b low =
        let S = atom 0 in let Z = atom 1 in let W = atom 2 in
        identity o ring (scale ∷ z ∷ w b ∷ []) ((S ⊖ S ⊗ Z) ⊗ W) (S ⊗ ((unit ⊖ Z) ⊗ W)) tt tt refl
        ∙ ap (times o scale) (sym (split.low b low))

    pub share-high : (b : ℕ) → b < n → times o (times o scale z) (w b) ≡ times o scale (all (n + b))
    unfolding Agree
    share-high b low =
        identity o ring (scale ∷ z ∷ w b ∷ []) ((atom 0 ⊗ atom 1) ⊗ atom 2) (atom 0 ⊗ (atom 1 ⊗ atom 2)) tt tt refl
        ∙ ap (times o scale) (sym (split.high b low))

    -- the last row of all is that of the second half
    pub last-row : (rows : ℕ) → 0 < n → rows ≡ n + n → times o (times o scale z) (w (n - 1)) ≡ times o scale (all (rows - 1))
    last-row rows some size =
        let at : n + (n - 1) ≡ rows - 1 = omega (arith, size, some) in
        share-high (n - 1) (omega (arith, some)) ∙ ap (λ k. times o scale (all k)) at

    -- and what a half of the rows gains where they are moved up
    pub moved-low : (before b : ℕ) → b < n → shifted before (λ k. times o (minus o scale (times o scale z)) (w k)) b ≡ shifted before (λ k. times o scale (all k)) b
    moved-low before b low = shifted-same before before _ _ n b refl share-low low

    pub moved-high : (before between b : ℕ) → between ≡ times o (minus o scale (times o scale z)) (w (n - 1)) → b < n →
        shifted between (λ k. times o (times o scale z) (w k)) b ≡ shifted before (λ k. times o scale (all k)) (n + b)
    moved-high before between b is low =
        shifted-same between (times o scale (all (n - 1))) _ (λ k. times o scale (all (n + k))) n b (is ∙ share-low (n - 1) (omega (arith, low))) share-high low
        ∙ sym (shifted-behind before (λ k. times o scale (all k)) n b (omega (arith, low)))

  -- of no coordinate
  pub last-none : (scale : ℕ) (zs : List ℕ) → length zs < 1 → scale < o.size → scale ≡ times o scale (equality_weight o zs (2 ^ length zs - 1))
  unfolding equality_weight
  last-none scale [] none low = sym (times-one o ring scale ∙ element-small o ring scale low)
  last-none scale (z ∷ zs) none low = absurd (omega (arith, none))

  -- ---- all rows: those that are moved up, and the last one, which stays

  -- a row but the last gains what the row before weighs
  pub gains-moved : (e scale : ℕ) (zs : List ℕ) (v a : ℕ) → a < 2 ^ length zs → (a ≡ 2 ^ length zs - 1 → ⊥) →
      plus o e (times o (shifted 0 (λ k. times o scale (equality_weight o zs k)) a) v) ≡ plus o e (times o scale (times o (successor_weight o zs a) v))
  unfolding Agree
  gains-moved e scale zs v a low other =
      let up = shifted 0 (equality_weight o zs) a in
      ap (λ k. plus o e (times o k v)) (shifted-times scale (equality_weight o zs) a)
      ∙ ap (plus o e) (identity o ring (scale ∷ up ∷ v ∷ []) ((atom 0 ⊗ atom 1) ⊗ atom 2) (atom 0 ⊗ ((atom 1 ⊕ nought) ⊗ atom 2)) tt tt refl)
      ∙ ap (λ k. plus o e (times o scale (times o (plus o up k) v))) (sym (only_at-elsewhere (2 ^ length zs - 1) (equality_weight o zs) a other))
      ∙ ap (λ k. plus o e (times o scale (times o k v))) (sym (successor-parts o ring zs a low))

  -- the last row gains what it weighs itself, too
  pub gains-both : (e scale : ℕ) (zs : List ℕ) (v stays : ℕ) → stays ≡ times o scale (equality_weight o zs (2 ^ length zs - 1)) →
      plus o (plus o e (times o (shifted 0 (λ k. times o scale (equality_weight o zs k)) (2 ^ length zs - 1)) v)) (times o stays v) ≡ plus o e (times o scale (times o (successor_weight o zs (2 ^ length zs - 1)) v))
  unfolding Agree
  gains-both e scale zs v stays is =
      let last = 2 ^ length zs - 1 in
      let pos : 0 < 2 ^ length zs = pow_pos (length zs) in
      let up = shifted 0 (equality_weight o zs) last in
      let E = atom 0 in let S = atom 1 in let U = atom 2 in let W = atom 3 in let V = atom 4 in
      ap (λ k. plus o (plus o e (times o k v)) (times o stays v)) (shifted-times scale (equality_weight o zs) last)
      ∙ ap (λ k. plus o (plus o e (times o (times o scale up) v)) (times o k v)) is
      ∙ identity o ring (e ∷ scale ∷ up ∷ equality_weight o zs last ∷ v ∷ []) ((E ⊕ (S ⊗ U) ⊗ V) ⊕ (S ⊗ W) ⊗ V) (E ⊕ S ⊗ ((U ⊕ W) ⊗ V)) tt tt refl
      ∙ ap (λ k. plus o e (times o scale (times o (plus o up k) v))) (sym (only_at-here last (equality_weight o zs) last refl))
      ∙ ap (λ k. plus o e (times o scale (times o k v))) (sym (successor-parts o ring zs last (omega (arith, pos))))

-- ---- slots of a selector that stands first

module _ (o : Ops) (ring : IsRing o) where
  pub slot-none : (scale u a : ℕ) (ss : List ℕ) → length ss < 1 → times o scale (times o u (equality_weight o [] 0)) ≡ times o scale (times o (equality_weight o ss a) u)
  unfolding equality_weight Agree
  slot-none scale u a [] none = identity o ring (scale ∷ u ∷ []) (atom 0 ⊗ (atom 1 ⊗ unit)) (atom 0 ⊗ (unit ⊗ atom 1)) tt tt refl
  slot-none scale u a (s ∷ ss) none = absurd (omega (arith, none))

  module _ (z : ℕ) (zs all : List ℕ) (split : all ≡ z ∷ zs) (scale u b : ℕ) (low : b < 2 ^ length zs) where
    halves : IsSplit o z (2 ^ length zs) (equality_weight o zs) (equality_weight o all)
    halves = split-weight o ring z zs all split

    pub slot-low : times o (minus o scale (times o scale z)) (times o (equality_weight o zs b) u) ≡ times o scale (times o (equality_weight o all b) u)
    slot-low =
        sym (times_assoc o ring (minus o scale (times o scale z)) (equality_weight o zs b) u)
        ∙ ap (λ k. times o k u) (share-low o ring z (2 ^ length zs) (equality_weight o zs) (equality_weight o all) halves scale b low)
        ∙ times_assoc o ring scale (equality_weight o all b) u

    pub slot-high : times o (times o scale z) (times o (equality_weight o zs b) u) ≡ times o scale (times o (equality_weight o all (2 ^ length zs + b)) u)
    slot-high =
        sym (times_assoc o ring (times o scale z) (equality_weight o zs b) u)
        ∙ ap (λ k. times o k u) (share-high o ring z (2 ^ length zs) (equality_weight o zs) (equality_weight o all) halves scale b low)
        ∙ times_assoc o ring scale (equality_weight o all (2 ^ length zs + b)) u

-- ---- the last row of blocks, and rows whose first one is written alone

module _ (o : Ops) (ring : IsRing o) where
  pub gain-alone : (scale : ℕ) (zs : List ℕ) (n : ℕ) (w : ℕ → ℕ) → 0 < n → length zs < 1 → (b : ℕ) → b < n → times o scale (w b) ≡ times o scale (block_weight o zs n w b)
  unfolding Agree
  gain-alone scale (z ∷ zs) n w some none b low = absurd (omega (arith, none))
  gain-alone scale [] n w some none b low =
      identity o ring (scale ∷ w b ∷ []) (atom 0 ⊗ atom 1) (atom 0 ⊗ (unit ⊗ atom 1)) tt tt refl ∙ ap (times o scale) (sym (blocks-none o ring n some w b low))

-- ---- rows that are moved up by s rows

module _ (s : ℕ) (first f : ℕ → ℕ) where
  up-first : (b : ℕ) → b < s → moved_up s first f b ≡ first b
  up-first b low = ap (λ t. if t then first b else f (b - s)) (lt-ltb b s low)

  up-behind : (b : ℕ) → s ≤ b → moved_up s first f b ≡ f (b - s)
  up-behind b high = ap (λ t. if t then first b else f (b - s)) (le-ltb b s high)

pub up-same : (s : ℕ) (first first' f f' : ℕ → ℕ) (n b : ℕ) → ((j : ℕ) → j < s → first j ≡ first' j) → ((k : ℕ) → k < n → f k ≡ f' k) → b < n → moved_up s first f b ≡ moved_up s first' f' b
up-same s first first' f f' n b firsts same low = ⊎_elim
    (λ below. up-first s first f b below ∙ firsts b below ∙ sym (up-first s first' f' b below))
    (λ above. up-behind s first f b above ∙ same (b - s) (omega (arith, low)) ∙ sym (up-behind s first' f' b above))
    (cases_lt b s)

-- the second half of p rows: after it stands the first one
pub up-high : (s p : ℕ) (first first' f high : ℕ → ℕ) → s ≤ p → ((j : ℕ) → j < s → first' j ≡ f (p - s + j)) → ((k : ℕ) → k < p → high k ≡ f (p + k)) → (b : ℕ) → b < p →
    moved_up s first' high b ≡ moved_up s first f (p + b)
up-high s p first first' f high fits firsts same b low =
    let behind = up-behind s first f (p + b) (omega (arith, fits)) in
    ⊎_elim
    (λ below.
    let at : p - s + b ≡ p + b - s = omega (arith, fits) in
    up-first s first' high b below ∙ firsts b below ∙ ap f at ∙ sym behind)
    (λ above.
    let at : p + (b - s) ≡ p + b - s = omega (arith, above) in
    up-behind s first' high b above ∙ same (b - s) (omega (arith, low)) ∙ ap f at ∙ sym behind)
    (cases_lt b s)

-- two parts of a list, of which the first has s rows, that were added to one after the other
pub parts-added : (o : Ops) {X : Type 0} (number : X → ℕ) (rows low high post : List X) (s : ℕ) → s ≤ length rows → length low ≡ length (take s rows) →
    length high ≡ length (take (length (low ++ drop s rows) - s) (drop s (low ++ drop s rows))) → (first second : ℕ → ℕ) →
    ((b : ℕ) → b < s → entries number low b ≡ plus o (entries number (take s rows) b) (first b)) →
    ((a : ℕ) → a < length rows - s → entries number high a ≡ plus o (entries number (take (length (low ++ drop s rows) - s) (drop s (low ++ drop s rows))) a) (second a)) →
    (b : ℕ) → b < length rows → entries number (take s (low ++ drop s rows) ++ (high ++ post)) b ≡ plus o (entries number rows b) (moved_up s first second b)
parts-added o number rows low high post s fits low_size high_size first second low_is high_is b inside =
    let whole = low ++ drop s rows in
    let lows : length low ≡ s = low_size ∙ length-take-le s rows fits in
    let size : length whole ≡ length rows = length-append low (drop s rows) ∙ omega (arith, lows, length-drop s rows, fits) in
    let within : s ≤ length whole = omega (arith, size, fits) in
    ⊎_elim
    (λ below.
    before-end number whole high post s within b below
    ∙ entry-append_left number low (drop s rows) b (omega (arith, lows, below)) ∙ low_is b below
    ∙ ap (λ k. plus o k (first b)) (entry-take number rows s b below)
    ∙ ap (plus o (entries number rows b)) (sym (up-first s first second b below)))
    (λ above.
    let a = b - s in
    let back : s + a ≡ b = omega (arith, above) in
    let highs : length high ≡ length rows - s = high_size ∙ length-take-le (length whole - s) (drop s whole) (omega (arith, length-drop s whole)) ∙ ap (λ k. k - s) size in
    let within_rest : a < length rows - s = omega (arith, above, inside) in
    let row : s + a ≡ length low + a = ap (λ k. k + a) (sym lows) in
    in-end number whole high post s within b a back (omega (arith, highs, within_rest)) ∙ high_is a within_rest
    ∙ ap (λ k. plus o k (second a)) (end-given number whole s (length whole - s) a (omega (arith, size, within_rest)) ∙ ap (entries number whole) row
    ∙ entry-append_right number low (drop s rows) a ∙ entry-drop number rows s a ∙ ap (entries number rows) back)
    ∙ ap (plus o (entries number rows b)) (sym (up-behind s first second b above)))
    (cases_lt b s)

module _ (o : Ops) (ring : IsRing o) where
  -- the weights of all coordinates, moved up by the rows that the selector tells apart
  pub moved-rows : (e scale : ℕ) (zs ss : List ℕ) (g : ℕ → ℕ) (a c : ℕ) → a < 2 ^ length zs → c < 2 ^ length ss →
      plus o e (moved_up (2 ^ length ss) (λ j. times o 0 (g j)) (λ k. times o scale (equality_weight o (zs ++ ss) k)) (a * 2 ^ length ss + c))
      ≡ plus o e (times o (shifted 0 (λ k. times o scale (equality_weight o zs k)) a) (equality_weight o ss c))
  unfolding Agree shifted
  moved-rows e scale zs ss g zero c la lc =
      let P = 2 ^ length ss in
      let first : ℕ → ℕ = λ j. times o 0 (g j) in
      let f : ℕ → ℕ = λ k. times o scale (equality_weight o (zs ++ ss) k) in
      let row : 0 * P + c ≡ c = omega arith in
      ap (λ b. plus o e (moved_up P first f b)) row ∙ ap (plus o e) (up-first P first f c lc)
      ∙ identity o ring (e ∷ g c ∷ equality_weight o ss c ∷ []) (atom 0 ⊕ nought ⊗ atom 1) (atom 0 ⊕ nought ⊗ atom 2) tt tt refl
  moved-rows e scale zs ss g (suc a) c la lc =
      let P = 2 ^ length ss in
      let first : ℕ → ℕ = λ j. times o 0 (g j) in
      let f : ℕ → ℕ = λ k. times o scale (equality_weight o (zs ++ ss) k) in
      let row : suc a * P + c ≡ P + (a * P + c) = omega arith in
      let back : P + (a * P + c) - P ≡ a * P + c = omega arith in
      ap (λ b. plus o e (moved_up P first f b)) row ∙ ap (plus o e) (up-behind P first f (P + (a * P + c)) (omega arith) ∙ ap f back
      ∙ ap (times o scale) (equality_weight-append o ring zs ss a c (omega (arith, la)) lc) ∙ sym (times_assoc o ring scale (equality_weight o zs a) (equality_weight o ss c)))

  -- the last rows of all, by those of the last block, whose scale is what the blocks' coordinates make of the whole one
  pub last-rows : (scale stays n s : ℕ) (w : ℕ → ℕ) (outer inner zs ss : List ℕ) → 0 < n → n ≡ 2 ^ length inner → s ≡ 2 ^ length ss → s ≤ n → ((c : ℕ) → c < n → w c ≡ equality_weight o inner c) → outer ++ inner ≡ zs ++ ss →
      2 ^ length zs * s ≡ 2 ^ length outer * n → stays ≡ times o scale (equality_weight o outer (2 ^ length outer - 1)) → (c : ℕ) → c < s →
      times o stays (w (n - s + c)) ≡ times o (times o scale (equality_weight o zs (2 ^ length zs - 1))) (equality_weight o ss c)
  last-rows scale stays n s w outer inner zs ss some width narrow fits inner_is joined size stays_is c low =
      let Q = 2 ^ length outer in
      let q = 2 ^ length zs in
      let within : n - s + c < n = omega (arith, fits, low) in
      let pos : 0 < Q = pow_pos (length outer) in
      let pos' : 0 < q = pow_pos (length zs) in
      let row : (Q - 1) * n + (n - s + c) ≡ (q - 1) * s + c = omega (arith, last-of Q n pos, last-of q s pos', size, fits) in
      let row' : (Q - 1) * 2 ^ length inner + (n - s + c) ≡ (q - 1) * 2 ^ length ss + c = ap (λ k. (Q - 1) * k + (n - s + c)) (sym width) ∙ row ∙ ap (λ k. (q - 1) * k + c) narrow in
      ap (λ k. times o k (w (n - s + c))) stays_is ∙ times_assoc o ring scale (equality_weight o outer (Q - 1)) (w (n - s + c))
      ∙ ap (λ k. times o scale (times o (equality_weight o outer (Q - 1)) k)) (inner_is (n - s + c) within)
      ∙ ap (times o scale) (sym (equality_weight-append o ring outer inner (Q - 1) (n - s + c) (omega (arith, pos)) (subst (λ k. n - s + c < k) width within))
      ∙ ap (λ l. equality_weight o l ((Q - 1) * 2 ^ length inner + (n - s + c))) joined ∙ ap (equality_weight o (zs ++ ss)) row'
      ∙ equality_weight-append o ring zs ss (q - 1) c (omega (arith, pos')) (subst (λ k. c < k) narrow low))
      ∙ sym (times_assoc o ring scale (equality_weight o zs (q - 1)) (equality_weight o ss c))

-- ---- blocks of the slots of a selector that stands first

module _ (o : Ops) (ring : IsRing o) where
  pub slots-joined : (outer inner zs : List ℕ) (n : ℕ) (w : ℕ → ℕ) → n ≡ 2 ^ length inner * 2 ^ length zs →
      ((a c : ℕ) → a < 2 ^ length inner → c < 2 ^ length zs → w (a * 2 ^ length zs + c) ≡ times o (equality_weight o inner a) (successor_weight o zs c)) →
      (b : ℕ) → b < 2 ^ length outer * n → block_weight o outer n w b ≡ slot_weight prefix o (outer ++ inner) zs b
  slots-joined outer inner zs n w size is b low =
      let Q = 2 ^ length inner in
      let P = 2 ^ length zs in
      let pos : 0 < P = pow_pos (length zs) in
      let some : 0 < n = omega (arith, size, mul-le 1 1 Q P (pow_pos (length inner)) pos) in
      let A = b / n in
      let r = b % n in
      let a = r / P in
      let c = r % P in
      let row : A * n + r ≡ b = omega arith in
      let place : a * P + c ≡ r = omega arith in
      let r_low : r < n = mod-lt b some in
      let a_low : a < Q = div_below r P Q pos (omega (arith, r_low, size)) in
      let c_low : c < P = mod-lt r pos in
      let A_low : A < 2 ^ length outer = div_below b n (2 ^ length outer) some low in
      let whole : (A * Q + a) * P + c ≡ b = omega (arith, row, place, ap (λ k. A * k) size) in
      ap (block_weight o outer n w) (sym row) ∙ block-at o ring n some w outer A r r_low
      ∙ ap (times o (equality_weight o outer A)) (ap w (sym place) ∙ is a c a_low c_low)
      ∙ sym (times_assoc o ring (equality_weight o outer A) (equality_weight o inner a) (successor_weight o zs c))
      ∙ ap (λ k. times o k (successor_weight o zs c)) (sym (equality_weight-append o ring outer inner A a A_low a_low))
      ∙ sym (slot-prefix o ring (outer ++ inner) zs (A * Q + a) c c_low) ∙ ap (slot_weight prefix o (outer ++ inner) zs) whole

  -- a slot's weights that are added to nothing
  pub slots-alone : (v u : ℕ) → plus o 0 (times o 1 (times o v u)) ≡ times o v u
  unfolding Agree
  slots-alone v u = identity o ring (v ∷ u ∷ []) (nought ⊕ unit ⊗ (atom 0 ⊗ atom 1)) (atom 0 ⊗ atom 1) tt tt refl
