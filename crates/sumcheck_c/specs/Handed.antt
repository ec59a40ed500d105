-- How a reply is handed to a caller: the text in the caller's memory `out`, two sizes and a status.
use Rattle.std.specs.Prelude.{◌≡◌, ◌⊎◌, ◌<◌, ◌≤◌, ◌++◌, ℕ, List, length, take, drop}
use Rattle.sumcheck_replies.specs.Reply.{Reply, code_of}
use Rattle.sumcheck_run.specs.Run.{writing_failed, want_of_memory}

-- This is the status of a reply and this is its whole text.
pub record IsTheReply (reply : Reply) (code : ℕ) (text : List ℕ) : Type 0 where
  pub status : code ≡ code_of reply.outcome
  pub whole : text ≡ reply.text

-- There was room: the text is the front of `out`, what follows it there is as it was, both sizes are its own, and the status is the reply's.
pub record HandsWhole (reply : Reply) (out out' : List ℕ) (written needed code : ℕ) : Type 0 where
  pub room : length reply.text ≤ length out
  pub text : out' ≡ reply.text ++ drop (length reply.text) out
  pub size : written ≡ length reply.text
  pub told : needed ≡ length reply.text
  pub status : code ≡ code_of reply.outcome

-- There was not: a proper prefix of the text fills `out`, and the size of the whole text is told.
pub record HandsPrefix (reply : Reply) (out out' : List ℕ) (written needed code : ℕ) : Type 0 where
  pub short : length out < length reply.text
  pub text : out' ≡ take (length out) reply.text
  pub size : written ≡ length out
  pub told : needed ≡ length reply.text
  pub status : code ≡ writing_failed

-- Out of memory: both sizes are 0.
pub record HandsNothing (written needed code : ℕ) : Type 0 where
  pub size : written ≡ 0
  pub told : needed ≡ 0
  pub status : code ≡ want_of_memory

-- The whole text where there is room, a proper prefix where there is not, or want of memory, and `out` as it was.
abbrev pub IsHanded : Reply → List ℕ → List ℕ → ℕ → ℕ → ℕ → Type 0
IsHanded reply out out' written needed code =
    HandsWhole reply out out' written needed code
    ⊎ HandsPrefix reply out out' written needed code
    ⊎ (HandsNothing written needed code × (out' ≡ out))
