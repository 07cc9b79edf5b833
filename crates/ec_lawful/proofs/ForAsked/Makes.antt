-- What an operation of a call that makes objects is, and which id it has.
use Rattle.std.proofs.Common.{◌≡◌, refl, sym, ap, subst, ◌∙◌, ◌&&◌, ℕ, Bool, true, false, T, List, [], ◌∷◌, ◌++◌, length, Option, None, Some}
use Rattle.std.specs.Prelude.{drop, is_some, nat_le}
use Rattle.std.proofs.lemmas.Bool.{true≢false}
use Rattle.ec_base.specs.Tables.{or_else}
use Rattle.ec_volume.specs.Entries.{Entries, entry}
use Rattle.ec_volume.specs.Image.{entries_of}
use Rattle.ec_volume.specs.Update.{is_make}
use Rattle.ec_volume.specs.Volume.{Images}
use Rattle.ec_volume.specs.declared.image.Kind.{Kind}
use Rattle.ec_volume.specs.declared.image.Kind.TheVariants as kind
use Rattle.ec_volume.specs.declared.update.Update.{Update}
use Rattle.ec_volume.specs.declared.update.Update.TheVariants.{Make, Drop, Move, Put, Len, Mode, Stamp, Order, Shift, Owner}
use Rattle.ec_plain.specs.Plain.{issues, make_in, plain, plain_make, refuses}
use Rattle.ec_plain.specs.Walk.{Path, last_of, parent_of, walk}
use Rattle.ec_plain.specs.declared.call.Call.{Call}
use Rattle.ec_plain.specs.declared.call.Call.TheVariants as call
use Rattle.ec_plain.specs.declared.call.Outcome.{Outcome}
use Rattle.ec_plain.specs.declared.call.Refusal.TheVariants as no
use Rattle.ec_history.proofs.OfLaws.ForFormed.Makes.{Makes, cond-makes, issues-makes, parent-makes, refuses-makes}
use Rattle.ec_durable.specs.Durable.{made}
use Rattle.ec_cache.specs.Cache.{images_held}
use Rattle.ec_cache.specs.OfResolve.Agreement.{IsFor, Shows}
use Rattle.ec_cache.specs.declared.resolve.verdict.Verdict.{Verdict}
use Rattle.ec_cache.specs.declared.resolve.verdict.Verdict.TheVariants.{Need, Lost, NeedIds, Done}
use Rattle.ec_cache.proofs.OfResolve.Verdicts.{done-says}
use Rattle.ec_history.specs.declared.entry.Answer.{Answer}
use Rattle.ec_cache.specs.OfReport.Report.{Owed}
use Rattle.ec_protocol.specs.Clerk.{first_id, verdict}
use Rattle.ec_protocol.specs.declared.clerk.Clerk.{Clerk}
use Rattle.ec_coherence.specs.Answers.{Gives}
use Rattle.ec_lawful.specs.OfClerkSteps.Answering.{Suits, answered_clerk}
use Rattle.ec_lawful.proofs.OfClerkSteps.Turned.{makes-first}
use Rattle.ec_lawful.specs.Creates.{creates}

-- An update of a call that makes objects makes one.

module _ (v : Images) (x : ℕ) where
  abbrev IsMake : Update → Type 0
  IsMake u = is_make u ≡ true

  in-dir : (k : Kind) (name : List ℕ) (dir : ℕ) (es : Entries) (read : List ℕ) → Makes IsMake (make_in k name x dir es read)
  in-dir k name dir es read =
      cond-makes IsMake (is_some (entry es name)) (refuses no.Exists read) (Rattle.std.proofs.Common.cond (nat_le 128 (length es)) (refuses no.DirFull read) (issues (Make dir name x k) (read ++ x ∷ []))) (λ e. refuses-makes IsMake no.Exists read)
      (λ e. cond-makes IsMake (nat_le 128 (length es)) (refuses no.DirFull read) (issues (Make dir name x k) (read ++ x ∷ [])) (λ f. refuses-makes IsMake no.DirFull read) (λ f. issues-makes IsMake (Make dir name x k) (read ++ x ∷ []) refl))

  by-path : (k : Kind) (path : Path) → Makes IsMake (plain_make v k path x)
  by-path k [] = refuses-makes IsMake no.Root []
  by-path k (n ∷ ns) = parent-makes IsMake v (n ∷ ns) (make_in k (last_of (n ∷ ns)) x) (λ d at dir. in-dir k (last_of (n ∷ ns)) d (entries_of (v d)) (walk v (parent_of (n ∷ ns))).read)

  makes-one : (cl : Call) → creates cl ≡ true → Makes IsMake (plain v cl x)
  makes-one (call.Mkdir path) e = by-path kind.Dir path
  makes-one (call.Create path) e = by-path kind.File path
  makes-one (call.Write path at bytes) e = absurd (true≢false (sym e))
  makes-one (call.SetLen path len) e = absurd (true≢false (sym e))
  makes-one (call.Read path at count) e = absurd (true≢false (sym e))
  makes-one (call.Chmod path mode) e = absurd (true≢false (sym e))
  makes-one (call.Touch path stamp) e = absurd (true≢false (sym e))
  makes-one (call.Stat path) e = absurd (true≢false (sym e))
  makes-one (call.List path) e = absurd (true≢false (sym e))
  makes-one (call.Remove path) e = absurd (true≢false (sym e))
  makes-one (call.Rmdir path) e = absurd (true≢false (sym e))
  makes-one (call.Rename path target) e = absurd (true≢false (sym e))
  makes-one (call.Fsync path) e = absurd (true≢false (sym e))
  makes-one (call.Forder paths) e = absurd (true≢false (sym e))
  makes-one call.Sync e = absurd (true≢false (sym e))
  makes-one (call.Chown path owner) e = absurd (true≢false (sym e))

made-some : (u : Update) → is_make u ≡ true → (x : ℕ) × (made u ≡ Some x)
made-some (Make dir name obj k) e = (obj, refl)
made-some (Drop dir name obj k) e = absurd (true≢false (sym e))
made-some (Move dir from to obj k victim) e = absurd (true≢false (sym e))
made-some (Put obj at bytes inside) e = absurd (true≢false (sym e))
made-some (Len obj len) e = absurd (true≢false (sym e))
made-some (Mode obj mode) e = absurd (true≢false (sym e))
made-some (Stamp obj stamp) e = absurd (true≢false (sym e))
made-some (Order objs) e = absurd (true≢false (sym e))
made-some (Shift dir from into to obj k victim up) e = absurd (true≢false (sym e))
made-some (Owner obj owner) e = absurd (true≢false (sym e))

-- Of a clerk that answers a call that makes objects, with an operation: it's with its first id, which isn't left.

pub record IsSpent (k now : Clerk) : Type 0 where
  pub id : ℕ
  pub first : first_id k.ids ≡ Some id
  pub left : now.ids ≡ drop 1 k.ids

module _ (k : Clerk) (cl : Call) (cr : creates cl ≡ true) where
  of-update : (o : Outcome) → verdict cl k ≡ Done o → (u : Update) → o.update ≡ Some u → is_make u ≡ true
  of-update o e u q = makes-one (images_held k.cache) (or_else 0 (first_id k.ids)) cl cr u (ap (λ z. z.update) (done-says k.cache k.owed cl (first_id k.ids) o e (images_held k.cache) shown (or_else 0 (first_id k.ids)) its) ∙ q)
    where
      shown : Shows k.cache (first_id k.ids) (images_held k.cache)
      shown = record { images = λ x t. refl; unmade = λ x t. refl }

      its : IsFor (first_id k.ids) (or_else 0 (first_id k.ids))
      its x q = ap (or_else 0) q

  by-done : (o : Outcome) → verdict cl k ≡ Done o → (u : Option Update) → o.update ≡ u → T (is_some (elim u as (λ z. Option ℕ) [ None ↦ None | Some w ↦ Some k.log.next ])) → IsSpent k (Rattle.ec_lawful.specs.OfClerkSteps.Answering.done_clerk o u k)
  by-done o e None q t = absurd t
  by-done o e (Some u) q t =
      let m = of-update o e u q in
      let x = made-some u m in
      record { id = x.0; first = makes-first cl k o e u q x.0 x.1; left = ap (λ z. elim z as (λ y. List ℕ) [ true ↦ drop 1 k.ids | false ↦ k.ids ]) m }

  pub spends : (most : ℕ) (v : Verdict) → verdict cl k ≡ v → (a : Answer) (op : Option ℕ) (rest : Owed) → Gives most k v a op rest → T (is_some op) → IsSpent k (answered_clerk v k)
  spends most (Need x h) e a op rest g t = absurd g
  spends most (Lost ns xs) e a op rest g t = absurd (subst (λ z. T (is_some z)) g.1 t)
  spends most (NeedIds xs) e a op rest g t = absurd (subst (λ z. T (is_some z)) g.4 t)
  spends most (Done o) e a op rest g t = by-done o e o.update refl (subst (λ z. T (is_some z)) g.1 t)
