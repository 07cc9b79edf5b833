-- What a clerk is behind an answer, and its step that gives it.
use Rattle.std.specs.Prelude.{◌≡◌, ℕ, T, [], ◌∷◌, Option, None, Some}
use Rattle.ec_history.specs.declared.entry.Answer.{Answer}
use Rattle.ec_volume.specs.declared.update.Update.{Update}
use Rattle.ec_cache.specs.Cache as cache
use Rattle.ec_plain.specs.declared.call.Outcome.{Outcome}
use Rattle.ec_cache.specs.OfReport.Report.{clear}
use Rattle.ec_cache.specs.declared.resolve.verdict.Verdict.{Verdict}
use Rattle.ec_cache.specs.declared.resolve.verdict.Verdict.TheVariants.{Need, Lost, NeedIds, Done}
use Rattle.ec_protocol.specs.Clerk.{Doing, suits}
use Rattle.ec_protocol.specs.declared.clerk.Clerk.{Clerk}
use Rattle.ec_protocol.specs.declared.clerk.Out.TheVariants as out
use Rattle.ec_coherence.specs.ChangeLaws.{with_answer}

-- the clerk, once what the call touched was used, and its update issued
abbrev pub done_clerk : Outcome → Option Update → Clerk → Clerk
done_clerk o None k = record k { cache = cache.all_used o.touched k.cache }
done_clerk o (Some u) k = with_answer u o.touched k

-- the clerk behind an answer by this verdict
abbrev pub answered_clerk : Verdict → Clerk → Clerk
answered_clerk (Need x h) k = k
answered_clerk (Lost ns xs) k = record k { owed = clear xs k.owed; cache = cache.all_used xs k.cache }
answered_clerk (NeedIds xs) k = record k { cache = cache.all_used xs k.cache }
answered_clerk (Done o) k = done_clerk o o.update k

-- the update that it issues with it fits what it holds
abbrev pub Suits : Verdict → Clerk → Type 0
Suits (Done o) k = (u : Update) → o.update ≡ Some u → T (suits u k.cache)
Suits (Need x h) k = Rattle.std.specs.Prelude.⊤
Suits (Lost ns xs) k = Rattle.std.specs.Prelude.⊤
Suits (NeedIds xs) k = Rattle.std.specs.Prelude.⊤

-- a step in which the clerk becomes this one, and answers the call of this number
abbrev pub answering : Clerk → ℕ → Answer → Option ℕ → Doing
answering now n a op = record { clerk = now; outs = out.Answer n a op ∷ []; spent = None }
