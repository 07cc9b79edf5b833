-- What a call comes to on the objects that a clerk holds: the plain outcome, where each object that it reads is held.
use Rattle.std.specs.Prelude.{ℕ, Bool, true, false, not, ◌&&◌, ◌-◌, List, [], ◌∷◌, length, take, Option, None, Some, is_none}
use Rattle.ec_base.specs.Tables.{first, or_else}
use Rattle.ec_base.specs.declared.ids.Hold.TheVariants.{Read, Write}
use Rattle.ec_volume.specs.Image.{is_id}
use Rattle.ec_volume.specs.Update.{operands, is_make}
use Rattle.ec_volume.specs.declared.update.Update.{Update}
use Rattle.ec_plain.specs.Plain.{plain, is_sync}
use Rattle.ec_plain.specs.declared.call.Call.{Call}
use Rattle.ec_plain.specs.declared.call.Outcome.{Outcome}
use Rattle.ec_cache.specs.Cache.{holds, images_held}
use Rattle.ec_cache.specs.declared.state.CacheState.{CacheState}
use Rattle.ec_cache.specs.OfReport.Report.{Owed, due, objects}
use Rattle.ec_cache.specs.declared.resolve.verdict.Verdict.{Verdict}
use Rattle.ec_cache.specs.declared.resolve.verdict.Verdict.TheVariants.{Need, Lost, NeedIds, Done}

-- The outcome on the images held, with Gone in the place of all others: a walk stops there, so that the first object it read that isn't
-- held is the first that the call lacks. A fresh id of 0 stands for none.
abbrev pub outcome : CacheState → Call → Option ℕ → Outcome
outcome k cl fresh = plain (images_held k) cl (or_else 0 fresh)

-- the update makes an object, and there is no id for it
abbrev pub lacks_id : Option ℕ → Option Update → Bool
lacks_id fresh None = false
lacks_id fresh (Some u) = is_make u && is_none fresh

-- The objects that the outcome touched. The last one of a make is the new object, which isn't there without an id.
abbrev pub seen : Bool → List ℕ → List ℕ
seen idless touched = elim idless [ true ↦ take (length touched - 1) touched | false ↦ touched ]

-- the first object whose image was read without a token; the fresh id's isn't read
abbrev pub first_unread : CacheState → Option ℕ → List ℕ → Option ℕ
first_unread k fresh xs = first (λ x. not (is_id x fresh) && not (holds x Read k)) xs

-- the objects whose mentions the call meets
abbrev pub met : Owed → Call → List ℕ → List ℕ
met owed cl xs = elim (is_sync cl) [ true ↦ objects owed | false ↦ xs ]

abbrev pub reported : List ℕ → List ℕ → Option Verdict
reported [] xs = None
reported (n ∷ ns) xs = Some (Lost (n ∷ ns) xs)

-- the operands that have to be held for writing; of a make without an id the directory alone
abbrev pub asked : Bool → List ℕ → List ℕ
asked idless xs = elim idless [ true ↦ take 1 xs | false ↦ xs ]

abbrev pub first_unwritten : CacheState → Bool → Option Update → Option ℕ
first_unwritten k idless None = None
first_unwritten k idless (Some u) = first (λ x. not (holds x Write k)) (asked idless (operands u))

-- what the update lacks: a token for writing, or an id, of which the objects are told that were touched
abbrev pub lacking : CacheState → Bool → Outcome → Verdict
lacking k idless out =
    elim (first_unwritten k idless out.update) [
      | Some x ↦ Need x Write
      | None ↦ elim idless [ true ↦ NeedIds (seen true out.touched) | false ↦ Done out ]
    ]

-- tokens for reading what was seen, then what is owed on what the call meets, then the rest
abbrev pub in_order : CacheState → Owed → Call → Option ℕ → List ℕ → Verdict → Verdict
in_order k owed cl fresh xs rest =
    elim (first_unread k fresh xs) [
      | Some x ↦ Need x Read
      | None ↦ or_else rest (reported (due (met owed cl xs) owed) (met owed cl xs))
    ]

abbrev pub judged : CacheState → Owed → Call → Option ℕ → Outcome → Verdict
judged k owed cl fresh out =
    let idless = lacks_id fresh out.update in
    in_order k owed cl fresh (seen idless out.touched) (lacking k idless out)

-- In this order: tokens for reading along the path; what is owed; a refusal or an answer without update; write tokens; an id; the update.
abbrev pub evaluate : CacheState → Owed → Call → Option ℕ → Verdict
evaluate k owed cl fresh = judged k owed cl fresh (outcome k cl fresh)
