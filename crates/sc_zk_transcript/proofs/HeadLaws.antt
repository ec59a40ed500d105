-- What stands before the rounds, from what the calls append that write it.
use Rattle.std.proofs.Common.{◌≡◌, ℕ, ◌+◌, ◌*◌, List, [], ◌∷◌, ◌++◌, length, replicate, ap, sym, ◌∙◌, append_assoc, length-append, arith}
use Rattle.std.proofs.lemmas.List.{append-nil, length-map, length-replicate}
use Rattle.sc_definitions.specs.declared.events.Event.{Event}
use Rattle.sc_definitions.specs.declared.events.Event.TheVariants.{Draw}
use Rattle.sc_definitions.specs.Events.{Extension, words}
use Rattle.sc_definitions.specs.Transcript.{sent}
use Rattle.sc_zk_definitions.specs.MaskedTranscripts.{commitment_events, masks_events}

-- the words of one value are its parts'
pub sent-one : (E : Extension) (x : ℕ) → sent E (x ∷ []) ≡ words (E.parts x)
unfolding sent
sent-one E x = ap words (append-nil (E.parts x))

-- and are as many
pub sent-length : (E : Extension) (x parts : ℕ) → length (E.parts x) ≡ parts → length (sent E (x ∷ [])) ≡ parts
sent-length E x parts many = ap length (sent-one E x) ∙ length-map _ _ ∙ many

module _ (E : Extension) (ws : List ℕ) (mu parts : ℕ) where
  -- a commitment and a total
  pub commitment-grown : (h h₁ h₂ h₃ : List Event) → h₁ ≡ h → h₂ ≡ h₁ ++ words ws → h₃ ≡ h₂ ++ words (E.parts mu) → h₃ ≡ h ++ commitment_events E ws mu
  commitment-grown h h₁ h₂ h₃ kept committed observed =
      observed ∙ ap (λ t. t ++ words (E.parts mu)) (committed ∙ ap (λ t. t ++ words ws) kept)
      ∙ append_assoc h (words ws) (words (E.parts mu)) ∙ ap (λ t. h ++ (words ws ++ t)) (sym (sent-one E mu))

  -- and the draw after them
  pub masks-grown : (h h₃ h₄ : List Event) → E.degree ≡ parts → h₃ ≡ h ++ commitment_events E ws mu → h₄ ≡ h₃ ++ replicate parts Draw →
      h₄ ≡ h ++ masks_events E ws mu
  masks-grown h h₃ h₄ degree before drawn =
      drawn ∙ ap (λ n. h₃ ++ replicate n Draw) (sym degree) ∙ ap (λ t. t ++ replicate E.degree Draw) before
      ∙ append_assoc h (commitment_events E ws mu) (replicate E.degree Draw)

  -- there are as many events as words, and twice the degree more
  pub masks-length : E.degree ≡ parts → length (E.parts mu) ≡ parts → length (masks_events E ws mu) ≡ length ws + 2 * parts
  masks-length degree many =
      let committed : length (commitment_events E ws mu) ≡ length ws + parts =
      length-append (words ws) (sent E (mu ∷ [])) ∙ ap (λ n. n + length (sent E (mu ∷ []))) (length-map ws _) ∙ ap (λ n. length ws + n) (sent-length E mu parts many) in
      omega (arith, length-append (commitment_events E ws mu) (replicate E.degree Draw), length-replicate E.degree Draw, committed, degree)
