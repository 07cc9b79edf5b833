-- A clerk without a session answers nothing that shows one.
use Rattle.std.proofs.Common.{◌≡◌, refl, sym, ap, subst, ◌∙◌, ℕ, T, true, false, map, List, [], ◌∷◌, ◌++◌, Option, Some, None}
use Rattle.std.specs.Prelude.{filter, length, ◌-◌, ⊤}
use Rattle.ec_base.specs.Tables.{once, or_else}
use Rattle.ec_volume.specs.Update.{root}
use Rattle.ec_volume.specs.Volume.{Images}
use Rattle.ec_volume.specs.declared.image.Image.TheVariants.{Gone}
use Rattle.ec_volume.specs.declared.update.Update.TheVariants as update
use Rattle.ec_plain.specs.Walk.{Path, Walk, At, Not, walk, parent_of}
use Rattle.ec_plain.specs.Plain.{plain, refuses, answers, on_reached, write_in, len_in, read_in, list_in, stat_of, issues, is_sync, once_more, plain_forder}
use Rattle.ec_plain.specs.BoundedCalls.{is_bounded}
use Rattle.ec_plain.specs.declared.call.Call.{Call}
use Rattle.ec_plain.specs.declared.call.Call.TheVariants as call
use Rattle.ec_plain.specs.declared.call.Reply.TheVariants as reply
use Rattle.ec_plain.specs.declared.call.Refusal.TheVariants as no
use Rattle.ec_plain.specs.declared.call.Outcome.{Outcome}
use Rattle.ec_history.specs.declared.entry.Answer.{Answer}
use Rattle.ec_history.specs.declared.entry.Answer.TheVariants as answer
use Rattle.ec_history.specs.Placing.{shows}
use Rattle.ec_protocol.specs.Clerk.{first_id, verdict}
use Rattle.ec_protocol.specs.declared.clerk.Clerk.{Clerk}
use Rattle.ec_coherence.specs.Sessions.{HasNone}
use Rattle.ec_coherence.specs.Answers.{Gives}
use Rattle.ec_cache.specs.declared.state.CacheState.{CacheState}
use Rattle.ec_cache.specs.OfReport.Report.{Owed, due, objects}
use Rattle.ec_cache.specs.OfResolve.Resolve.{evaluate, judged, reported}
use Rattle.ec_cache.specs.declared.resolve.verdict.Verdict.{Verdict}
use Rattle.ec_cache.specs.declared.resolve.verdict.Verdict.TheVariants.{Need, Lost, NeedIds, Done}

-- The verdict needs a token, or answers without an operation what shows no session.
abbrev pub ShowsNothing : Call → Verdict → Type 0
ShowsNothing cl (Need x h) = ⊤
ShowsNothing cl (NeedIds xs) = ⊥
ShowsNothing cl (Lost ns xs) = shows cl (answer.Lost ns) ≡ false
ShowsNothing cl (Done o) = (shows cl (answer.Reply o.reply) ≡ false) × (o.update ≡ None)

-- the walk on nothing
abbrev nothing : Images
nothing = λ o. Gone

abbrev stopped : Walk
stopped = record { to = Not (no.NotFound 0); read = root ∷ [] }

walk-nothing : (q : Path) → walk nothing q ≡ stopped
walk-nothing [] = refl
walk-nothing (n ∷ q) = refl

abbrev lacks : Outcome
lacks = refuses (no.NotFound 0) (root ∷ [])

reached-nothing : (q : Path) (f : ℕ → List ℕ → Outcome) → on_reached (walk nothing q) f ≡ lacks
reached-nothing q f = ap (λ w. on_reached w f) (walk-nothing q)

filter-none : {A : Type 0} (xs : List A) → filter (λ x. false) xs ≡ []
filter-none [] = refl
filter-none (x ∷ xs) = filter-none xs

module _ (k : CacheState) (owed : Owed) (held : k.held ≡ []) (limits : k.limits ≡ []) where
  cache-is : k ≡ record k { held = []; limits = [] }
  cache-is = λ i. record { capacity = k.capacity; held = held i; lasts = k.lasts; limits = limits i }

  abbrev bare : CacheState
  bare = record k { held = []; limits = [] }

  -- with such an outcome the root is needed
  needs-root : (cl : Call) → plain nothing cl 0 ≡ lacks → ShowsNothing cl (evaluate k owed cl None)
  needs-root cl e = subst (λ c. ShowsNothing cl (evaluate c owed cl None)) (sym cache-is) (subst (λ out. ShowsNothing cl (judged bare owed cl None out)) (sym e) tt)

  -- a refusal of the root touches nothing, and is what it is
  is-refused : (cl : Call) → is_sync cl ≡ false → plain nothing cl 0 ≡ refuses no.Root [] → ShowsNothing cl (evaluate k owed cl None)
  is-refused cl s e =
      subst (λ c. ShowsNothing cl (evaluate c owed cl None)) (sym cache-is)
      (subst (λ out. ShowsNothing cl (judged bare owed cl None out)) (sym e)
      (subst (λ b. ShowsNothing cl (or_else (Done (refuses no.Root [])) (reported (due (elim b [ true ↦ objects owed | false ↦ [] ]) owed) (elim b [ true ↦ objects owed | false ↦ [] ])))) (sym s)
      (subst (λ ns. ShowsNothing cl (or_else (Done (refuses no.Root [])) (reported ns []))) (sym (ap (λ qs. once (map (λ p. p.0) qs)) (filter-none owed))) (refused-shows cl, refl))))
    where
      refused-shows : (cl : Call) → shows cl (answer.Reply (reply.Refused no.Root)) ≡ false
      refused-shows call.Sync = refl
      refused-shows cl = refl

  pub sessionless : (cl : Call) → T (is_bounded cl) → ShowsNothing cl (evaluate k owed cl None)
  sessionless (call.Mkdir []) b = is-refused (call.Mkdir []) refl refl
  sessionless (call.Mkdir (n ∷ ns)) b = needs-root (call.Mkdir (n ∷ ns)) (reached-nothing (parent_of (n ∷ ns)) (λ d os. refuses (no.NotDir (length (n ∷ ns) - 1)) os))
  sessionless (call.Create []) b = is-refused (call.Create []) refl refl
  sessionless (call.Create (n ∷ ns)) b = needs-root (call.Create (n ∷ ns)) (reached-nothing (parent_of (n ∷ ns)) (λ d os. refuses (no.NotDir (length (n ∷ ns) - 1)) os))
  sessionless (call.Write p o bytes) b = needs-root (call.Write p o bytes) (reached-nothing p (write_in nothing o bytes))
  sessionless (call.SetLen p len) b = needs-root (call.SetLen p len) (reached-nothing p (len_in nothing len))
  sessionless (call.Read p o count) b = needs-root (call.Read p o count) (reached-nothing p (read_in nothing o count))
  sessionless (call.Chmod p mode) b = needs-root (call.Chmod p mode) (reached-nothing p (λ x os. issues (update.Mode x mode) os))
  sessionless (call.Touch p stamp) b = needs-root (call.Touch p stamp) (reached-nothing p (λ x os. issues (update.Stamp x stamp) os))
  sessionless (call.Stat p) b = needs-root (call.Stat p) (reached-nothing p (λ x os. answers (stat_of (nothing x)) os))
  sessionless (call.List p) b = needs-root (call.List p) (reached-nothing p (list_in nothing p))
  sessionless (call.Remove []) b = is-refused (call.Remove []) refl refl
  sessionless (call.Remove (n ∷ ns)) b = needs-root (call.Remove (n ∷ ns)) (reached-nothing (parent_of (n ∷ ns)) (λ d os. refuses (no.NotDir (length (n ∷ ns) - 1)) os))
  sessionless (call.Rmdir []) b = is-refused (call.Rmdir []) refl refl
  sessionless (call.Rmdir (n ∷ ns)) b = needs-root (call.Rmdir (n ∷ ns)) (reached-nothing (parent_of (n ∷ ns)) (λ d os. refuses (no.NotDir (length (n ∷ ns) - 1)) os))
  sessionless (call.Rename [] q) b = is-refused (call.Rename [] q) refl refl
  sessionless (call.Rename (n ∷ ns) []) b = is-refused (call.Rename (n ∷ ns) []) refl refl
  sessionless (call.Rename (n ∷ ns) (m ∷ ms)) b = needs-root (call.Rename (n ∷ ns) (m ∷ ms)) (reached-nothing (parent_of (n ∷ ns)) (λ d os. refuses (no.NotDir (length (n ∷ ns) - 1)) os))
  sessionless (call.Fsync p) b = needs-root (call.Fsync p) (reached-nothing p (λ x os. answers reply.Ok os))
  sessionless (call.Forder []) b = absurd b
  sessionless (call.Forder (p ∷ ps)) b = needs-root (call.Forder (p ∷ ps)) (ap (λ w. elim w.to [ At o ↦ plain_forder nothing ps (once_more o []) ([] ++ w.read) | Not r ↦ refuses r ([] ++ w.read) ]) (walk-nothing p))
  sessionless (call.Chown p owner) b = needs-root (call.Chown p owner) (reached-nothing p (λ x os. issues (update.Owner x owner) os))
  sessionless call.Sync b = subst (λ c. ShowsNothing call.Sync (evaluate c owed call.Sync None)) (sym cache-is) (go (due (objects owed) owed))
    where
      go : (ns : List ℕ) → ShowsNothing call.Sync (or_else (Done (answers reply.Ok [])) (reported ns (objects owed)))
      go [] = (refl, refl)
      go (n ∷ ns) = refl

-- so with what a clerk without a session has
pub outside-shows-none : (k : Clerk) → HasNone k → (cl : Call) → T (is_bounded cl) → (most : ℕ) (a : Answer) (op : Option ℕ) (rest : Owed) → Gives most k (verdict cl k) a op rest → (shows cl a ≡ false) × (op ≡ None)
outside-shows-none k none cl bounded most a op rest gives = go (verdict cl k) nothing-shown gives
  where
    nothing-shown : ShowsNothing cl (verdict cl k)
    nothing-shown = subst (λ x. ShowsNothing cl (evaluate k.cache k.owed cl (first_id x))) (sym none.ids) (sessionless k.cache k.owed (ap (λ z. z.held) none.cache) (ap (λ z. z.limits) none.cache) cl bounded)

    go : (v : Verdict) → ShowsNothing cl v → Gives most k v a op rest → (shows cl a ≡ false) × (op ≡ None)
    go (Need x h) s g = absurd g
    go (NeedIds xs) s g = absurd s
    go (Lost ns xs) s g = (ap (shows cl) g.0 ∙ s, g.1)
    go (Done o) s g = (ap (shows cl) g.0 ∙ s.0, g.1 ∙ ap (λ u. elim u as (λ z. Option ℕ) [ None ↦ None | Some x ↦ Some k.log.next ]) s.1)
