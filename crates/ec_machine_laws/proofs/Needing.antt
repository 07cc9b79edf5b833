-- What calls need is touched and isn't held, and ids are needed by calls that make an object.
use Rattle.std.proofs.Common.{◌≡◌, ◌∙◌, refl, sym, ap, subst, inl, inr, arith, ℕ, T, Bool, true, false, not, ◌&&◌, List, ◌∷◌, Option, Some, None}
use Rattle.std.proofs.lemmas.Bool.{true≢false}
use Rattle.ec_base.specs.Tables.{or_else}
use Rattle.ec_base.specs.Holds.{is_free}
use Rattle.ec_base.specs.declared.ids.Hold.{Hold}
use Rattle.ec_base.specs.declared.ids.Hold.TheVariants.{Read, Write}
use Rattle.ec_volume.specs.Image.{is_id}
use Rattle.ec_volume.specs.Update.{member}
use Rattle.ec_volume.specs.Volume.{Images}
use Rattle.ec_volume.specs.declared.image.Kind.{Kind}
use Rattle.ec_volume.specs.declared.update.Update.{Update}
use Rattle.ec_volume.specs.declared.update.Update.TheVariants.{Make}
use Rattle.ec_plain.specs.Plain.{plain}
use Rattle.ec_plain.specs.declared.call.Call.{Call}
use Rattle.ec_plain.specs.declared.call.Call.TheVariants as call
use Rattle.ec_cache.specs.Cache.{holds, images_held}
use Rattle.ec_cache.specs.declared.state.CacheState.{CacheState}
use Rattle.ec_cache.specs.OfReport.Report.{Owed}
use Rattle.ec_history.proofs.OfLaws.ForPlacing.Touching.{plain-touches}
use Rattle.ec_cache.specs.OfResolve.Agreement.{Shows, IsFor, IsFirst, IsNeeded, is_unread, is_unwritten}
use Rattle.ec_cache.specs.OfResolve.Resolve.{evaluate}
use Rattle.ec_cache.specs.declared.resolve.verdict.Verdict.TheVariants.{Need, NeedIds}
use Rattle.ec_machine_laws.specs.Needs.{IsCreate}
use Rattle.ec_cache.proofs.OfResolve.Making.{either-plain, is_made}
use Rattle.ec_cache.proofs.OfResolve.Members.{member-self, member-right}
use Rattle.ec_cache.proofs.OfResolve.Verdicts.{need-says, ids-says}

-- Needs.

first-member : (p : ℕ → Bool) (x : ℕ) (xs : List ℕ) → IsFirst p x xs → T (member x xs)
first-member p x xs f = subst (λ ys. T (member x ys)) (sym f.whole) (member-right x f.front (x ∷ f.back) (member-self x f.back))

pub needed-touched : (k : CacheState) (owed : Owed) (cl : Call) (fresh : Option ℕ) (x : ℕ) (h : Hold) → evaluate k owed cl fresh ≡ Need x h → (v : Images) → Shows k fresh v → (id : ℕ) → IsFor fresh id → T (member x (plain v cl id).touched)
needed-touched k owed cl fresh x h e v s id f = elim (need-says k owed cl fresh x h e v s id f) [
  | inl p ↦ first-member (is_unread k fresh) x (plain v cl id).touched p.1
  | inr p ↦ plain-touches v cl id p.1.update p.1.issued x (first-member (is_unwritten k) x _ p.1.first)
]

-- the images held are a volume that the cache shows
shown : (k : CacheState) (fresh : Option ℕ) → Shows k fresh (images_held k)
shown k fresh = record { images = λ x t. refl; unmade = λ x t. refl }

its : (fresh : Option ℕ) → IsFor fresh (or_else 0 fresh)
its fresh x q = ap (or_else 0) q

needed : (k : CacheState) (owed : Owed) (cl : Call) (fresh : Option ℕ) (x : ℕ) (h : Hold) → evaluate k owed cl fresh ≡ Need x h → IsNeeded k owed cl fresh (or_else 0 fresh) (plain (images_held k) cl (or_else 0 fresh)) x h
needed k owed cl fresh x h e = need-says k owed cl fresh x h e (images_held k) (shown k fresh) (or_else 0 fresh) (its fresh)

off : (b : Bool) → not b ≡ true → b ≡ false
off true e = absurd (true≢false (sym e))
off false e = refl

off-both : (a b : Bool) → (not a && not b) ≡ true → b ≡ false
off-both true b e = absurd (true≢false (sym e))
off-both false b e = off b e

pub needed-unheld : (k : CacheState) (owed : Owed) (cl : Call) (fresh : Option ℕ) (x : ℕ) (h : Hold) → evaluate k owed cl fresh ≡ Need x h → holds x h k ≡ false
needed-unheld k owed cl fresh x h e = elim (needed k owed cl fresh x h e) [
  | inl p ↦ ap (λ g. holds x g k) p.0 ∙ off-both (is_id x fresh) (holds x Read k) p.1.passes
  | inr p ↦ ap (λ g. holds x g k) p.0 ∙ off (holds x Write k) p.1.first.passes
]

pub needed-some : (k : CacheState) (owed : Owed) (cl : Call) (fresh : Option ℕ) (x : ℕ) (h : Hold) → evaluate k owed cl fresh ≡ Need x h → is_free h ≡ false
needed-some k owed cl fresh x h e = elim (needed k owed cl fresh x h e) [ inl p ↦ ap is_free p.0 | inr p ↦ ap is_free p.0 ]

-- Ids.

-- a call that doesn't look at the id makes nothing
unmade : {A : Type 0} (v : Images) (cl : Call) (id : ℕ) → ((x y : ℕ) → plain v cl x ≡ plain v cl y) → is_made (plain v cl id).update ≡ true → A
unmade {A} v cl id same e = elim (either-plain v cl) [
  | inl s ↦ absurd (true≢false (sym e ∙ (s.1 id).none))
  | inr m ↦
      let both : ◌≡◌ {A = Option Update} (Some (Make m.dir m.name 0 m.kind)) (Some (Make m.dir m.name 1 m.kind)) = ap (λ o. o.update) (sym (m.comes 0) ∙ same 0 1 ∙ m.comes 1) in
      let ids : ◌≡◌ {A = ℕ} 0 1 = cc in
      absurd (omega (arith, ids))
]

by-creates : (v : Images) (cl : Call) (id : ℕ) → is_made (plain v cl id).update ≡ true → IsCreate cl
by-creates v (call.Mkdir p) id e = (p, inl refl)
by-creates v (call.Create p) id e = (p, inr refl)
by-creates v (call.Write p at bytes) id e = unmade v (call.Write p at bytes) id (λ x y. refl) e
by-creates v (call.SetLen p len) id e = unmade v (call.SetLen p len) id (λ x y. refl) e
by-creates v (call.Read p at count) id e = unmade v (call.Read p at count) id (λ x y. refl) e
by-creates v (call.Chmod p mode) id e = unmade v (call.Chmod p mode) id (λ x y. refl) e
by-creates v (call.Touch p stamp) id e = unmade v (call.Touch p stamp) id (λ x y. refl) e
by-creates v (call.Stat p) id e = unmade v (call.Stat p) id (λ x y. refl) e
by-creates v (call.List p) id e = unmade v (call.List p) id (λ x y. refl) e
by-creates v (call.Remove p) id e = unmade v (call.Remove p) id (λ x y. refl) e
by-creates v (call.Rmdir p) id e = unmade v (call.Rmdir p) id (λ x y. refl) e
by-creates v (call.Rename p q) id e = unmade v (call.Rename p q) id (λ x y. refl) e
by-creates v (call.Fsync p) id e = unmade v (call.Fsync p) id (λ x y. refl) e
by-creates v (call.Forder ps) id e = unmade v (call.Forder ps) id (λ x y. refl) e
by-creates v call.Sync id e = unmade v call.Sync id (λ x y. refl) e
by-creates v (call.Chown p owner) id e = unmade v (call.Chown p owner) id (λ x y. refl) e

pub makes-own : (v : Images) (cl : Call) (id dir obj : ℕ) (name : List ℕ) (kind : Kind) → (plain v cl id).update ≡ Some (Make dir name obj kind) → (obj ≡ id) × IsCreate cl
makes-own v cl id dir obj name kind e = (own, by-creates v cl id (ap is_made e))
  where
    own : obj ≡ id
    own = elim (either-plain v cl) [
      | inl s ↦ absurd (true≢false (sym (ap is_made e) ∙ (s.1 id).none))
      | inr m ↦
          let both : ◌≡◌ {A = Option Update} (Some (Make dir name obj kind)) (Some (Make m.dir m.name id m.kind)) = sym e ∙ ap (λ o. o.update) (m.comes id) in
          cc
    ]

pub ids-creates : (k : CacheState) (owed : Owed) (cl : Call) (fresh : Option ℕ) (xs : List ℕ) → evaluate k owed cl fresh ≡ NeedIds xs → IsCreate cl
ids-creates k owed cl fresh xs e =
    let w = ids-says k owed cl fresh xs e (images_held k) (shown k fresh) (or_else 0 fresh) (its fresh) in
    by-creates (images_held k) cl (or_else 0 fresh) (ap is_made w.made)

pub ids-none : (k : CacheState) (owed : Owed) (cl : Call) (fresh : Option ℕ) (xs : List ℕ) → evaluate k owed cl fresh ≡ NeedIds xs → fresh ≡ None
ids-none k owed cl fresh xs e = (ids-says k owed cl fresh xs e (images_held k) (shown k fresh) (or_else 0 fresh) (its fresh)).none
