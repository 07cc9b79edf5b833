-- A call that touched nothing and has no update shows no session.
use Rattle.std.proofs.Common.{◌≡◌, refl, sym, ap, subst, ◌∙◌, ℕ, false, T, List, [], ◌∷◌, ◌++◌, Some, None}
use Rattle.ec_volume.specs.Update.{member, root}
use Rattle.ec_volume.specs.Volume.{Images}
use Rattle.ec_volume.specs.declared.image.Image.TheVariants.{Gone}
use Rattle.std.specs.Prelude.{◌-◌, if◌then◌else◌, length}
use Rattle.ec_volume.specs.Entries.{Entries, entry}
use Rattle.ec_volume.specs.Image.{entries_of, is_dir, is_gone}
use Rattle.ec_volume.specs.declared.image.Kind.TheVariants as kind
use Rattle.ec_volume.specs.declared.update.Update.TheVariants.{Mode, Owner, Stamp}
use Rattle.ec_plain.specs.Walk.{Path, At, Not, Walk, last_of, parent_of, walk}
use Rattle.ec_plain.specs.Plain.{answers, drop_in, issues, len_in, list_in, make_in, on_parent, on_reached, once_more, plain, plain_forder, read_in, refuses, rename_in, stat_of, write_in}
use Rattle.ec_plain.specs.declared.call.Reply.TheVariants as reply
use Rattle.ec_plain.specs.declared.call.Call.{Call}
use Rattle.ec_plain.specs.declared.call.Call.TheVariants as call
use Rattle.ec_plain.specs.declared.call.Refusal.TheVariants as no
use Rattle.ec_plain.specs.declared.call.Outcome.{Outcome}
use Rattle.ec_history.specs.Placing.{shows}
use Rattle.ec_history.specs.declared.entry.Answer.TheVariants as answer
use Rattle.ec_cache.proofs.OfResolve.Agreeing.{plain-agrees}
use Rattle.ec_base.proofs.Options.{none_some}

abbrev nothing : Images
nothing = λ x. Gone

abbrev lost : Walk
lost = record { to = Not (no.NotFound 0); read = root ∷ [] }

walk-nothing : (p : Path) → walk nothing p ≡ lost
walk-nothing [] = refl
walk-nothing (n ∷ ns) = refl

pub some-touched : {A : Type 0} (xs : List ℕ) → xs ≡ root ∷ [] → xs ≡ [] → A
some-touched xs e f = absurd (apart (sym e ∙ f))
  where
    apart : root ∷ [] ≡ [] → ⊥
    apart e = cc

at-walk : (p : Path) (f : ℕ → List ℕ → Outcome) → (on_reached (walk nothing p) f).touched ≡ root ∷ []
at-walk p f = ap (λ w. (on_reached w f).touched) (walk-nothing p)

-- what comes at an entry, as on_entry has it
abbrev entry_of : Path → (ℕ → Entries → ℕ → List ℕ → Outcome) → ℕ → Entries → List ℕ → Outcome
entry_of path f dir entries read =
    elim (entry entries (last_of path)) [
      | None ↦ refuses (no.NotFound (length path)) read
      | Some obj ↦ if is_gone (nothing obj) then refuses (no.NotFound (length path)) (read ++ obj ∷ []) else f dir entries obj (read ++ obj ∷ [])
    ]

abbrev Quiet : Call → Outcome → Type 0
Quiet cl out = out.touched ≡ [] → out.update ≡ None → shows cl (answer.Reply out.reply) ≡ false

by-walk : (cl : Call) (p : Path) (f : ℕ → List ℕ → Outcome) → Quiet cl (on_reached (walk nothing p) f)
by-walk cl p f t u = some-touched (on_reached (walk nothing p) f).touched (at-walk p f) t

-- the walk ends before any function of a directory
by-parent : (cl : Call) (p : Path) (f : ℕ → Entries → List ℕ → Outcome) → Quiet cl (on_parent nothing p f)
by-parent cl p f t u = some-touched (on_parent nothing p f).touched (ap (λ w. (on_reached w (λ dir read. if is_dir (nothing dir) then f dir (entries_of (nothing dir)) read else refuses (no.NotDir (length p - 1)) read)).touched) (walk-nothing (parent_of p))) t

on-nothing : (cl : Call) (x : ℕ) → Quiet cl (plain nothing cl x)
on-nothing (call.Mkdir []) x t u = refl
on-nothing (call.Mkdir (n ∷ ns)) x t u = by-parent (call.Mkdir (n ∷ ns)) (n ∷ ns) (make_in kind.Dir (last_of (n ∷ ns)) x) t u
on-nothing (call.Create []) x t u = refl
on-nothing (call.Create (n ∷ ns)) x t u = by-parent (call.Create (n ∷ ns)) (n ∷ ns) (make_in kind.File (last_of (n ∷ ns)) x) t u
on-nothing (call.Write p offset bytes) x t u = by-walk (call.Write p offset bytes) p (write_in nothing offset bytes) t u
on-nothing (call.SetLen p len) x t u = by-walk (call.SetLen p len) p (len_in nothing len) t u
on-nothing (call.Read p offset count) x t u = by-walk (call.Read p offset count) p (read_in nothing offset count) t u
on-nothing (call.Chmod p mode) x t u = by-walk (call.Chmod p mode) p (λ obj read. issues (Mode obj mode) read) t u
on-nothing (call.Touch p stamp) x t u = by-walk (call.Touch p stamp) p (λ obj read. issues (Stamp obj stamp) read) t u
on-nothing (call.Stat p) x t u = by-walk (call.Stat p) p (λ obj read. answers (stat_of (nothing obj)) read) t u
on-nothing (call.List p) x t u = by-walk (call.List p) p (list_in nothing p) t u
on-nothing (call.Remove []) x t u = refl
on-nothing (call.Remove (n ∷ ns)) x t u = by-parent (call.Remove (n ∷ ns)) (n ∷ ns) (entry_of (n ∷ ns) (drop_in nothing kind.File (n ∷ ns))) t u
on-nothing (call.Rmdir []) x t u = refl
on-nothing (call.Rmdir (n ∷ ns)) x t u = by-parent (call.Rmdir (n ∷ ns)) (n ∷ ns) (entry_of (n ∷ ns) (drop_in nothing kind.Dir (n ∷ ns))) t u
on-nothing (call.Rename [] q) x t u = refl
on-nothing (call.Rename (n ∷ ns) []) x t u = refl
on-nothing (call.Rename (n ∷ ns) (m ∷ ms)) x t u = by-parent (call.Rename (n ∷ ns) (m ∷ ms)) (n ∷ ns) (entry_of (n ∷ ns) (rename_in nothing (n ∷ ns) (m ∷ ms))) t u
on-nothing (call.Fsync p) x t u = by-walk (call.Fsync p) p (λ obj read. answers reply.Ok read) t u
on-nothing (call.Forder []) x t u = absurd (none_some (sym u))
on-nothing (call.Forder (p ∷ ps)) x t u =
    some-touched (plain nothing (call.Forder (p ∷ ps)) x).touched (ap (λ w. (elim w.to as (λ z. Outcome) [ At obj ↦ plain_forder nothing ps (once_more obj []) ([] ++ w.read) | Not r ↦ refuses r ([] ++ w.read) ]).touched) (walk-nothing p)) t
on-nothing call.Sync x t u = refl
on-nothing (call.Chown p owner) x t u = by-walk (call.Chown p owner) p (λ obj read. issues (Owner obj owner) read) t u

pub touches-nothing : (v : Images) (cl : Call) (x : ℕ) → Quiet cl (plain v cl x)
touches-nothing v cl x t u =
    let same : plain nothing cl x ≡ plain v cl x = plain-agrees v nothing cl x (λ y m. absurd (subst (λ z. T (member y z)) t m)) in
    ap (λ o. shows cl (answer.Reply o.reply)) (sym same) ∙ on-nothing cl x (ap (λ o. o.touched) same ∙ t) (ap (λ o. o.update) same ∙ u)
