-- What a call comes to on a cache that holds nothing: it needs a token, or is answered without an update.
use Rattle.std.proofs.Common.{◌≡◌, refl, ap, ◌∙◌, ℕ, T, Bool, true, false, if◌then◌else◌, List, [], ◌∷◌, inl, inr, ◌⊎◌, length}
use Rattle.std.specs.Prelude.{Option, None, Some, ◌-◌}
use Rattle.ec_base.specs.declared.ids.Hold.{Hold}
use Rattle.ec_base.specs.declared.ids.Hold.TheVariants.{Read, Write}
use Rattle.ec_volume.specs.Entries.{entry}
use Rattle.ec_volume.specs.Image.{entries_of, is_dir, is_gone}
use Rattle.ec_volume.specs.Update.{root}
use Rattle.ec_volume.specs.Volume.{Images}
use Rattle.ec_volume.specs.declared.image.Image.TheVariants.{Gone}
use Rattle.ec_volume.specs.declared.image.Kind.{Kind}
use Rattle.ec_volume.specs.declared.image.Kind.TheVariants as kind
use Rattle.ec_volume.specs.declared.update.Update.TheVariants.{Mode, Owner, Stamp}
use Rattle.ec_plain.specs.BoundedCalls.{is_bounded}
use Rattle.ec_plain.specs.Plain.{answers, drop_in, issues, len_in, list_in, make_in, on_entry, on_parent, on_reached, once_more, plain, plain_forder, read_in, refuses, rename_in, stat_of, write_in}
use Rattle.ec_plain.specs.Walk.{At, Not, Path, Walk, last_of, parent_of, walk}
use Rattle.ec_plain.specs.declared.call.Call.{Call}
use Rattle.ec_plain.specs.declared.call.Call.TheVariants as call
use Rattle.ec_plain.specs.declared.call.Outcome.{Outcome}
use Rattle.ec_plain.specs.declared.call.Refusal.TheVariants as no
use Rattle.ec_plain.specs.declared.call.Reply.TheVariants as reply
use Rattle.ec_cache.specs.Cache.{empty}
use Rattle.ec_cache.specs.OfResolve.Resolve.{evaluate, first_unread, first_unwritten, judged, lacking, lacks_id, seen}
use Rattle.ec_cache.specs.declared.resolve.verdict.Verdict.{Verdict}
use Rattle.ec_cache.specs.declared.resolve.verdict.Verdict.TheVariants.{Need, NeedIds, Done}

-- nothing is there
abbrev nothing : Images
nothing x = Gone

-- Each walk ends at the root, and so no call has an update.

ends : (p : Path) → walk nothing p ≡ record { to = Not (no.NotFound 0); read = root ∷ [] }
ends [] = refl
ends (n ∷ ns) = refl

refused : (p : Path) (f : ℕ → List ℕ → Outcome) → (on_reached (walk nothing p) f).update ≡ None
refused p f = ap (λ w. (on_reached w f).update) (ends p)

none-made : (k : Kind) (p : Path) (fresh : ℕ) → (Rattle.ec_plain.specs.Plain.plain_make nothing k p fresh).update ≡ None
none-made k [] fresh = refl
none-made k (n ∷ ns) fresh = refused (parent_of (n ∷ ns))
    (λ dir read. if is_dir (nothing dir) then make_in k (last_of (n ∷ ns)) fresh dir (entries_of (nothing dir)) read else refuses (no.NotDir (length (n ∷ ns) - 1)) read)

none-at : (p : Path) (f : ℕ → Rattle.ec_volume.specs.Entries.Entries → ℕ → List ℕ → Outcome) → (on_entry nothing p f).update ≡ None
none-at p f = refused (parent_of p) (λ dir read. if is_dir (nothing dir) then (elim (entry (entries_of (nothing dir)) (last_of p)) as (λ z. Outcome) [
  | None ↦ refuses (no.NotFound (length p)) read
  | Some obj ↦ if is_gone (nothing obj) then refuses (no.NotFound (length p)) (Rattle.std.specs.Prelude.◌++◌ read (obj ∷ [])) else f dir (entries_of (nothing dir)) obj (Rattle.std.specs.Prelude.◌++◌ read (obj ∷ []))
]) else refuses (no.NotDir (length p - 1)) read)

none-dropped : (k : Kind) (p : Path) → (Rattle.ec_plain.specs.Plain.plain_drop nothing k p).update ≡ None
none-dropped k [] = refl
none-dropped k (n ∷ ns) = none-at (n ∷ ns) (drop_in nothing k (n ∷ ns))

none-renamed : (p q : Path) → (Rattle.ec_plain.specs.Plain.plain_rename nothing p q).update ≡ None
none-renamed [] q = refl
none-renamed (n ∷ ns) [] = refl
none-renamed (n ∷ ns) (m ∷ ms) = none-at (n ∷ ns) (rename_in nothing (n ∷ ns) (m ∷ ms))

none-ordered : (p : Path) (ps : List Path) → (plain_forder nothing (p ∷ ps) [] []).update ≡ None
none-ordered p ps = ap (λ (w : Walk). (elim w.to as (λ z. Outcome) [ At obj ↦ plain_forder nothing ps (once_more obj []) w.read | Not r ↦ refuses r w.read ]).update) (ends p)

none-updated : (cl : Call) (fresh : ℕ) → T (is_bounded cl) → (plain nothing cl fresh).update ≡ None
none-updated (call.Mkdir p) fresh b = none-made kind.Dir p fresh
none-updated (call.Create p) fresh b = none-made kind.File p fresh
none-updated (call.Write p at bytes) fresh b = refused p (write_in nothing at bytes)
none-updated (call.SetLen p len) fresh b = refused p (len_in nothing len)
none-updated (call.Read p at count) fresh b = refused p (read_in nothing at count)
none-updated (call.Chmod p mode) fresh b = refused p (λ obj read. issues (Mode obj mode) read)
none-updated (call.Touch p stamp) fresh b = refused p (λ obj read. issues (Stamp obj stamp) read)
none-updated (call.Stat p) fresh b = refused p (λ obj read. answers (stat_of (nothing obj)) read)
none-updated (call.List p) fresh b = refused p (list_in nothing p)
none-updated (call.Remove p) fresh b = none-dropped kind.File p
none-updated (call.Rmdir p) fresh b = none-dropped kind.Dir p
none-updated (call.Rename p q) fresh b = none-renamed p q
none-updated (call.Fsync p) fresh b = refused p (λ obj read. answers reply.Ok read)
none-updated (call.Forder []) fresh b = absurd b
none-updated (call.Forder (p ∷ ps)) fresh b = none-ordered p ps
none-updated call.Sync fresh b = refl
none-updated (call.Chown p owner) fresh b = refused p (λ obj read. issues (Owner obj owner) read)

-- Such an outcome needs a token, or is final.

abbrev pub Plainly : Verdict → Type 0
Plainly v = ((x : ℕ) × (h : Hold) × (v ≡ Need x h)) ⊎ ((o : Outcome) × (v ≡ Done o) × (o.update ≡ None))

module _ (c : ℕ) (cl : Call) (out : Outcome) (none : out.update ≡ None) where
  abbrev idless : Bool
  idless = lacks_id None out.update

  done : lacking (empty c) idless out ≡ Done out
  done = ap (λ u. elim (first_unwritten (empty c) idless u) as (λ z. Verdict) [ Some x ↦ Need x Write | None ↦ elim idless as (λ z. Verdict) [ true ↦ NeedIds (seen true out.touched) | false ↦ Done out ] ]) none
      ∙ ap (λ b. elim b as (λ z. Verdict) [ true ↦ NeedIds (seen true out.touched) | false ↦ Done out ]) (ap (lacks_id None) none)

  judges : Plainly (judged (empty c) [] cl None out)
  judges = go (first_unread (empty c) None (seen idless out.touched))
    where
      go : (o : Option ℕ) → Plainly (elim o as (λ z. Verdict) [ Some x ↦ Need x Read | None ↦ lacking (empty c) idless out ])
      go (Some x) = inl (x, Read, refl)
      go None = inr (out, done, none)

pub on-empty : (c : ℕ) (cl : Call) → T (is_bounded cl) → Plainly (evaluate (empty c) [] cl None)
on-empty c cl b = judges c cl (plain nothing cl 0) (none-updated cl 0 b)
