-- A batch of rounds, one round after the other.
use Rattle.std.proofs.Common.{◌≡◌, ℕ, suc, ◌+◌, ◌<◌, List, [], ◌∷◌, ◌++◌, refl, ap, ◌∙◌, inl, inr, subst, arith, Result, Ok, Err, IsErrAnd, ◌≤◌}
use Rattle.sc_definitions.specs.Ring.{Ops, IsRing}
use Rattle.sc_definitions.specs.Tables.{Basis, Order, IsOffered}
use Rattle.sc_definitions.specs.Channels.{Channel, NoWitnessFound}
use Rattle.sc_definitions.specs.ProverStates.{Setting, ProverState, IsRound, IsPlayed, IsRoundWithoutWitness, message_in}
use Rattle.sc_definitions.proofs.ProverStateLaws.{played_more}
use Rattle.sc_definitions.proofs.HonestRounds.{honest-round}
use Rattle.sc_transcript.specs.Causes.{cause_of}
use Rattle.sc_transcript.specs.Drivers.{IsRefused}
use Rattle.sc_transcript.specs.Batches.{Moves, MovesHonestly, HoldsIfMore, HoldsBatch, IsHalted, IsStopped, Batch, BreaksOff, LeavesBatch}
use Rattle.sc_transcript.specs.declared.error.SumcheckError.{SumcheckError}
use Rattle.sc_transcript.specs.declared.error.SumcheckError.TheVariants.{NoMemory, NoWitness}
use Rattle.sc_definitions.specs.ProverViews.{Stored, HoldsIfAny}

-- ---- rounds, by other names of what they move

pub same_setting : {c c' : Channel} {o : Ops} {basis basis' : Basis} {order order' : Order} → c ≡ c' → basis ≡ basis' → order ≡ order' →
    ◌≡◌ {A = Setting} (record { channel = c; ops = o; basis = basis; order = order }) (record { channel = c'; ops = o; basis = basis'; order = order' })
same_setting ec eb eo = rw (ec, eb, eo) refl

pub played_at : {s s' : Setting} {t t' : ProverState} {u u' : ProverState} {rs rs' : List ℕ} → s ≡ s' → t ≡ t' → u ≡ u' → rs ≡ rs' → IsPlayed s t u rs → IsPlayed s' t' u' rs'
played_at es et eu er p = rw (← es, ← et, ← eu, ← er) p

-- what is held, by other names of the rounds
pub holds_at : {s s' : Setting} {t t' : ProverState} {rs rs' : List ℕ} {before kept : Stored} → s ≡ s' → t ≡ t' → rs ≡ rs' →
    HoldsIfAny s t before rs kept → HoldsIfAny s' t' before rs' kept
holds_at es et er p = rw (← es, ← et, ← er) p

-- a batch that got no memory before it began
pub never_begun : {X : Type 0} (result : Result X SumcheckError) (challenges : X → List ℕ) (b : Batch) {u : ProverState} →
    IsErrAnd result (λ e. e ≡ NoMemory) → u ≡ b.taken → LeavesBatch challenges b u result
never_begun (Ok x) challenges b memory none = elim memory [ ]
never_begun (Err e) challenges b memory none = rw memory (inl none)

-- a batch, by other names of it and of what it leaves
pub batch_as : {X : Type 0} (result : Result X SumcheckError) (challenges : X → List ℕ) (b b' : Batch) (u u' : ProverState) → b ≡ b' → u ≡ u' →
    LeavesBatch challenges b u result → LeavesBatch challenges b' u' result
batch_as result challenges b b' u u' eb eu p = subst (λ v. LeavesBatch challenges b' v result) eu (subst (λ d. LeavesBatch challenges d u result) eb p)

-- what is held after a batch, by another name of it
pub holds_as : (b b' : Batch) (before before' : Stored) (rs : List ℕ) (kept : Stored) → b ≡ b' → before ≡ before' →
    HoldsBatch b before rs kept → HoldsBatch b' before' rs kept
holds_as b b' before before' rs kept eb ek p = subst (λ k. HoldsBatch b' k rs kept) ek (subst (λ d. HoldsBatch d before rs kept) eb p)

-- no challenge yet, by another name
pub as_none : (s : Setting) (t : ProverState) (rs : List ℕ) → rs ≡ [] → IsPlayed s t t [] → IsPlayed s t t rs
as_none s t rs none p = rw none p

-- one round more, in a setting by another name
pub one_round_more : {s s₁ : Setting} → IsRing s.ops → IsOffered s.basis s.order → {t u v : ProverState} {rs rs' : List ℕ} {r : ℕ} →
    s₁ ≡ s → rs' ≡ rs ++ r ∷ [] → IsPlayed s t u rs → IsRound s₁ u v r → IsPlayed s t v rs'
one_round_more {s} ring offered {t} {u} {v} {rs} {r} same drawn p q =
    rw drawn (played_more s ring offered t u v rs r p (subst (λ k. IsRound k u v r) same q))

-- a round that is refused stops the rounds
pub stops : {s s₁ : Setting} {t u : ProverState} (v : ProverState) {rs : List ℕ} {i j : ℕ} (e : SumcheckError) → s₁ ≡ s → i ≡ j → IsPlayed s t u rs → IsHalted s₁ u v i e → IsStopped s t v j e
stops v {rs} NoMemory same place p why = record { rs = rs; played = rw why p }
stops {u} v {rs} (NoWitness k) same place p why =
    (why.0 ∙ place, record { rs = rs; last = u; played = p; ends = subst (λ k. IsRoundWithoutWitness k u v) same why.1 })
stops v e same place p why = absurd why

-- rounds that stop, as a batch that was begun
pub stops_batch : (b : Batch) {s : Setting} {t u u' : ProverState} {i n : ℕ} (e : SumcheckError) → s ≡ b.setting → t ≡ b.start → u ≡ u' →
    u'.variables + i ≡ b.start.variables → i < n → n ≡ b.rounds → IsStopped s t u i e → BreaksOff b u' e
stops_batch b NoMemory es et eu left less size why =
    inr (record { within = omega (arith, left, less, size); part = rw (← es, ← et, ← eu) why })
stops_batch b {i} (NoWitness k) es et eu left less size why =
    let place : k ≡ i = why.0 in (omega arith, omega arith, rw (← es, ← et, ← eu) why.1)
stops_batch b e es et eu left less size why = absurd why

-- ---- results and counts

-- two numbers that are one more than the same are the same
pub one_less : (a b m n : ℕ) → a ≡ m + 1 → b ≡ n + 1 → a ≡ b → n ≡ m
one_less a b m n first second same = omega arith

-- a variable is left as long as a round is
pub some_left : (v v₀ p n : ℕ) → v + p ≡ v₀ → n ≤ v₀ → p < n → 0 < v
some_left v v₀ p n left enough less = omega arith

-- all rounds are played when none is left
pub all_played : (p k n m : ℕ) → p ≡ k → m ≡ n → n ≤ k → k ≤ n → p ≡ m
all_played p k n m same size low high = omega arith

-- a round k below as many as there are, by other names
pub less_at : (p k n m : ℕ) → p ≡ k → k < n → n ≡ m → p < m
less_at p k n m same less size = omega arith

pub room_at : {p k n m r : ℕ} → p ≡ k → k < n → n ≡ m → m ≤ r → p < r
room_at same less size room = omega arith

pub sum_at : (v p k s : ℕ) → p ≡ k → v + k ≡ s → v + p ≡ s
sum_at v p k s same is = omega arith

-- an order between numbers by other names
pub fits : (a k v w : ℕ) → a ≡ k → v ≡ w → k ≤ w → a ≤ v
fits a k v w same size low = omega arith

-- one variable less, one round more
pub less_by_one : (v v₀ p s : ℕ) → v₀ ≡ suc v → v₀ + p ≡ s → v + (p + 1) ≡ s
less_by_one v v₀ p s fewer is = omega arith

-- rounds begin within a batch, by other names
pub begun_within : {k len p n m : ℕ} → k ≡ len → len ≡ p → p ≤ m → n ≡ m → k ≤ n
begun_within is count low size = omega arith

-- no round was played before
pub none_before : (v p s z : ℕ) → v + p ≡ s + z → z ≡ 0 → v + p ≡ s
none_before v p s z is none = omega arith

-- all variables are left for the rounds
pub enough_left : (n m v p : ℕ) → n ≡ m → m ≤ v → p ≡ 0 → n ≤ v + p
enough_left n m v p size enough none = omega arith

-- what is held where no round was played before
pub held_if_any : {s : Setting} {t : ProverState} {rs all : List ℕ} {before kept : Stored} → rs ≡ [] → IsPlayed s t t [] →
    HoldsIfMore (record { setting = s; now = t; drawn = rs }) before all kept → HoldsIfAny s t before all kept
held_if_any {s} {t} {rs} none played holds = elim (holds t (as_none s t rs none played)) [
  | inl same ↦ inl (same.0 ∙ none, same.1)
  | inr last ↦ inr last
]

-- ---- one round

-- a round that is refused leaves all but the history
pub halts : (s : Setting) (t : ProverState) {u : ProverState} (i : ℕ) {values : List ℕ} (e : SumcheckError) →
    IsRefused s.channel i t.history values u.history (cause_of e) → values ≡ message_in s t → u ≡ record t { history = u.history } → IsHalted s t u i e
halts s t i NoMemory why message kept = kept ∙ ap (λ h. record t { history = h }) why
halts s t {u} i (NoWitness j) why message kept =
    (why.0, record { none = subst (λ vs. NoWitnessFound s.channel t.history vs u.history) message why.1; kept = kept })
halts s t i e why message kept = absurd why

-- a round as the tables before it tell it
pub moved-honest : {X : Type 0} (number : X → ℕ) (s : Setting) → IsRing s.ops → IsOffered s.basis s.order → (t u : ProverState) (i : ℕ) (r : Result X SumcheckError) →
    Moves number s t u i r → MovesHonestly number s t u i r
moved-honest number s ring offered t u i (Ok x) p = (p, honest-round s ring offered t u (number x) p)
moved-honest number s ring offered t u i (Err e) p = p
