-- Sources and sinks in memory.
use Rattle.std.specs.Prelude.{◌≡◌, ◌==◌, ◌++◌, ℕ, Bool, true, false, List, length, take, drop, min, if◌then◌else◌}
use Rattle.std.specs.List.{list_any}
use Rattle.ec_base.specs.declared.outside.Took.{Took}
use Rattle.ec_base.specs.declared.outside.Took.TheVariants as took
use Rattle.ec_base.specs.declared.outside.Gave.{Gave}
use Rattle.ec_base.specs.declared.outside.Gave.TheVariants as gave
use Rattle.ec_base.specs.Outside.{one_more}
use Rattle.ec_base.specs.OutsideCalls.{count_after_take, count_after_give}

-- the bytes left in a source or held by a sink, the numbers of the calls that fail, and the calls and faults so far
pub record Buffer : Type 0 where
  pub bytes : List ℕ
  pub fails : List ℕ
  pub calls : ℕ
  pub faults : ℕ

-- whether the next call is one that fails; calls are numbered from 1
abbrev pub fails_next : Buffer → Bool
fails_next b = list_any (λ call. call == one_more b.calls) b.fails

-- what a source answers where there is room for so many bytes
abbrev pub answer_taken : Buffer → ℕ → Took
answer_taken b room = if fails_next b then took.Failed else (if length b.bytes == 0 then took.End else took.Bytes (min (length b.bytes) room))

abbrev pub bytes_taken : Took → ℕ
bytes_taken (took.Bytes n) = n
bytes_taken took.End = 0
bytes_taken took.Failed = 0

abbrev pub after_take : Buffer → Took → Buffer
after_take b answer = record { bytes = drop (bytes_taken answer) b.bytes; fails = b.fails; calls = one_more b.calls; faults = count_after_take b.faults answer }

-- a sink takes the piece whole or has no memory for it, but where the call is one that fails
abbrev pub AnswersGiven : Buffer → List ℕ → Gave → Type 0
AnswersGiven b piece (gave.Bytes n) = (fails_next b ≡ false) × (n ≡ length piece)
AnswersGiven b piece gave.Failed = fails_next b ≡ true
AnswersGiven b piece gave.NoMemory = fails_next b ≡ false

abbrev pub bytes_given : Gave → ℕ
bytes_given (gave.Bytes n) = n
bytes_given gave.Failed = 0
bytes_given gave.NoMemory = 0

abbrev pub after_give : Buffer → List ℕ → Gave → Buffer
after_give b piece answer = record { bytes = b.bytes ++ take (bytes_given answer) piece; fails = b.fails; calls = one_more b.calls; faults = count_after_give b.faults answer }
