-- Calls wait on where their clerk holds less.
use Rattle.std.proofs.Common.{◌≡◌, ◌≢◌, refl, sym, ap, subst, ◌∙◌, inl, inr, ◌⊎◌, arith, ◌-◌, ℕ, T, Bool, true, false, not, ◌==◌, ◌&&◌, ◌||◌, List, [], ◌∷◌, length, Option, Some, None}
use Rattle.std.specs.Prelude.{is_none, take}
use Rattle.std.specs.List.{list_all}
use Rattle.ec_base.specs.Tables.{first, or_else}
use Rattle.ec_base.specs.declared.ids.Hold.TheVariants.{Read, Write}
use Rattle.ec_volume.specs.Image.{is_id}
use Rattle.ec_volume.specs.Update.{fits, is_make, is_sound, member, operands}
use Rattle.ec_volume.specs.Volume.{Images}
use Rattle.ec_volume.specs.declared.update.Update.{Update}
use Rattle.ec_volume.specs.declared.update.Update.TheVariants as update
use Rattle.ec_plain.specs.Plain.{plain}
use Rattle.ec_plain.specs.declared.call.Call.{Call}
use Rattle.ec_plain.specs.declared.call.Outcome.{Outcome}
use Rattle.ec_cache.specs.Cache.{holds, images_held}
use Rattle.ec_log.specs.Log as log
use Rattle.ec_log.specs.Log.{is_full, ops_are_spent}
use Rattle.ec_log.specs.declared.state.Asked.{Asked}
use Rattle.ec_cache.specs.OfReport.Report.{due}
use Rattle.ec_cache.specs.OfResolve.Agreement.{AreTouchedBy, IsFor, IsOwed, IsReady, Shows, is_unread}
use Rattle.ec_cache.specs.OfResolve.Resolve.{evaluate, first_unwritten, in_order, judged, lacking, lacks_id, met, reported, seen}
use Rattle.ec_cache.specs.declared.resolve.verdict.Verdict.{Verdict}
use Rattle.ec_cache.specs.declared.resolve.verdict.Verdict.TheVariants.{Need, Lost, NeedIds, Done}
use Rattle.ec_cache.proofs.OfResolve.Making.{front-of}
use Rattle.ec_cache.proofs.OfResolve.Settled.{either}
use Rattle.ec_cache.proofs.OfResolve.Verdicts.{done-ready, done-says, lost-says}
use Rattle.ec_protocol.specs.Clerk.{awaited, first_id, is_owing, suits, verdict}
use Rattle.ec_protocol.specs.declared.clerk.Clerk.{Clerk}
use Rattle.ec_protocol.specs.declared.clerk.Waiting.{Waiting}
use Rattle.ec_lawful.specs.OfClerkSteps.Waits.{does_wait, waits_by, waits_with}
use Rattle.ec_base.proofs.Numbers.{same-self as same}
use Rattle.ec_base.proofs.Bools.{or-right as or_next, or_first, holds-true}

-- It holds no more than before, with the same images; and the first free id has the same image.
pub record HoldsLess (k now : Clerk) : Type 0 where
  pub owed : now.owed ≡ k.owed
  pub ids : now.ids ≡ k.ids
  pub log : now.log ≡ k.log
  pub read : (x : ℕ) → T (holds x Read now.cache) → T (holds x Read k.cache) × (images_held k.cache x ≡ images_held now.cache x)
  pub write : (x : ℕ) → T (holds x Write now.cache) → T (holds x Write k.cache) × (images_held k.cache x ≡ images_held now.cache x)
  pub fresh : (x : ℕ) → first_id k.ids ≡ Some x → images_held k.cache x ≡ images_held now.cache x

first-nothing : (p : ℕ → Bool) (xs : List ℕ) → ((x : ℕ) → T (member x xs) → p x ≡ false) → first p xs ≡ None
first-nothing p [] h = refl
first-nothing p (x ∷ xs) h = ap (λ z. elim z as (λ y. Option ℕ) [ true ↦ Some x | false ↦ first p xs ]) (h x (or_first (x == x) (member x xs) (holds-true (x == x) (same x)))) ∙ first-nothing p xs (λ y t. h y (or_next (y == x) (member y xs) t))

is_id-some : (x : ℕ) (o : Option ℕ) → T (is_id x o) → o ≡ Some x
is_id-some x None t = absurd t
is_id-some x (Some y) t = go (x == y) refl t
  where
    equal : (m n : ℕ) → (m == n) ≡ true → n ≡ m
    equal m n e = grind arith

    go : (z : Bool) → (x == y) ≡ z → T z → Some y ≡ Some x
    go true e t = ap Some (equal x y e)
    go false e t = absurd t

reports-some : (ns xs : List ℕ) (v : Verdict) → ns ≢ [] → (ms : List ℕ) × (ys : List ℕ) × (or_else v (reported ns xs) ≡ Lost ms ys)
reports-some [] xs v n = absurd (n refl)
reports-some (m ∷ ms) xs v n = (m ∷ ms, xs, refl)

module _ (k now : Clerk) (less : HoldsLess k now) (cl : Call) where
  abbrev fresh : Option ℕ
  fresh = first_id k.ids

  abbrev V : Images
  V = images_held k.cache

  abbrev out : Outcome
  out = plain V cl (or_else 0 fresh)

  shows : Shows now.cache fresh V
  shows = record { images = λ o t. (less.read o t).1; unmade = λ o t. less.fresh o (is_id-some o fresh t) }

  its : IsFor fresh (or_else 0 fresh)
  its x e = ap (or_else 0) e

  now-is : evaluate now.cache now.owed cl (first_id now.ids) ≡ evaluate now.cache k.owed cl fresh
  now-is = ap (λ z. evaluate now.cache z cl (first_id now.ids)) less.owed ∙ ap (λ z. evaluate now.cache k.owed cl (first_id z)) less.ids

  unread-still : (x : ℕ) → is_unread now.cache fresh x ≡ false → is_unread k.cache fresh x ≡ false
  unread-still x e = go (either (is_id x fresh) (holds x Read now.cache) e)
    where
      or_true : (y z : Bool) → T y ⊎ T z → (not y && not z) ≡ false
      or_true true z t = refl
      or_true false true t = refl
      or_true false false (inl t) = absurd t
      or_true false false (inr t) = absurd t

      go : T (is_id x fresh) ⊎ T (holds x Read now.cache) → is_unread k.cache fresh x ≡ false
      go (inl t) = or_true (is_id x fresh) (holds x Read k.cache) (inl t)
      go (inr t) = or_true (is_id x fresh) (holds x Read k.cache) (inr (less.read x t).0)

  -- the same outcome is done
  done-still : (o : Outcome) → evaluate now.cache k.owed cl fresh ≡ Done o → evaluate k.cache k.owed cl fresh ≡ Done o
  done-still o e =
      ap (judged k.cache k.owed cl fresh) (done-says now.cache k.owed cl fresh o e V shows (or_else 0 fresh) its)
      ∙ ap (λ z. in_order k.cache k.owed cl fresh (seen z o.touched) (lacking k.cache z o)) (lacks-none o.update refl)
      ∙ ap (λ z. elim z as (λ y. Verdict) [ Some x ↦ Need x Read | None ↦ or_else (lacking k.cache false o) (reported (due (met k.owed cl o.touched) k.owed) (met k.owed cl o.touched)) ]) (first-nothing (is_unread k.cache fresh) o.touched (λ x t. unread-still x (ready.read x t)))
      ∙ ap (λ z. or_else (lacking k.cache false o) (reported z (met k.owed cl o.touched))) ready.unowed
      ∙ ap (λ z. elim z as (λ y. Verdict) [ Some x ↦ Need x Write | None ↦ Done o ]) (unwritten o.update refl)
    where
      ready : IsReady now.cache k.owed cl fresh o
      ready = done-ready now.cache k.owed cl fresh o e

      lacks-none : (u : Option Update) → o.update ≡ u → lacks_id fresh o.update ≡ false
      lacks-none None p = ap (lacks_id fresh) p
      lacks-none (Some u) p = ap (lacks_id fresh) p ∙ by u p
        where
          and_false : (z : Bool) → (z && false) ≡ false
          and_false true = refl
          and_false false = refl

          by : (u : Update) → o.update ≡ Some u → (is_make u && is_none fresh) ≡ false
          by (update.Make dir name x kind) p = ap is_none (ready.made dir name x kind p)
          by u p = refl

      unwritten : (u : Option Update) → o.update ≡ u → first_unwritten k.cache false o.update ≡ None
      unwritten None p = ap (first_unwritten k.cache false) p
      unwritten (Some u) p = ap (first_unwritten k.cache false) p ∙ first-nothing (λ x. not (holds x Write k.cache)) (operands u) (λ x t. off (holds x Write k.cache) (less.write x (ready.written u p x t)).0)
        where
          off : (z : Bool) → T z → not z ≡ false
          off true t = refl
          off false t = absurd t

  -- the same losses are reported
  lost-still : (ns xs : List ℕ) → evaluate now.cache k.owed cl fresh ≡ Lost ns xs → (ms : List ℕ) × (ys : List ℕ) × (evaluate k.cache k.owed cl fresh ≡ Lost ms ys)
  lost-still ns xs e =
      let last = reports-some (due (met k.owed cl owing.touched) k.owed) (met k.owed cl owing.touched) (lacking k.cache (lacks_id fresh out.update) out) some in (
        last.0,
        last.1,
        ap (λ z. in_order k.cache k.owed cl fresh z (lacking k.cache (lacks_id fresh out.update) out)) touched
            ∙ ap (λ z. elim z as (λ y. Verdict) [ Some x ↦ Need x Read | None ↦ or_else (lacking k.cache (lacks_id fresh out.update) out) (reported (due (met k.owed cl owing.touched) k.owed) (met k.owed cl owing.touched)) ]) (first-nothing (is_unread k.cache fresh) owing.touched (λ x t. unread-still x ((owing.read).held x t)))
            ∙ last.2,
      )
    where
      owing : IsOwed now.cache k.owed cl fresh (or_else 0 fresh) out ns xs
      owing = lost-says now.cache k.owed cl fresh ns xs e V shows (or_else 0 fresh) its

      some : due (met k.owed cl owing.touched) k.owed ≢ []
      some p = owing.some (owing.reported ∙ ap (λ z. due z k.owed) owing.shown ∙ p)

      touched : seen (lacks_id fresh out.update) out.touched ≡ owing.touched
      touched = go (lacks_id fresh out.update) (owing.read).touched
        where
          go : (z : Bool) → AreTouchedBy (or_else 0 fresh) out owing.touched z → seen z out.touched ≡ owing.touched
          go true p = ap (λ os. take (length os - 1) os) p ∙ front-of owing.touched (or_else 0 fresh)
          go false p = p

module _ (k now : Clerk) (less : HoldsLess k now) (w : Waiting) where
  same-suits : (u : Update) (o : Outcome) → verdict w.call now ≡ Done o → o.update ≡ Some u → suits u now.cache ≡ suits u k.cache
  same-suits u o e p = ap (λ z. is_sound u && z) (go (operands u) (λ x t. (less.write x (written x t)).1))
    where
      written : (x : ℕ) → T (member x (operands u)) → T (holds x Write now.cache)
      written x t = (done-ready now.cache now.owed w.call (first_id now.ids) o e).written u p x t

      go : (xs : List ℕ) → ((x : ℕ) → T (member x xs) → images_held k.cache x ≡ images_held now.cache x) → list_all (λ x. fits u x (images_held now.cache x)) xs ≡ list_all (λ x. fits u x (images_held k.cache x)) xs
      go [] h = refl
      go (x ∷ xs) h = ap (λ z. fits u x z && list_all (λ x. fits u x (images_held now.cache x)) xs) (sym (h x (or_first (x == x) (member x xs) (holds-true (x == x) (same x))))) ∙ ap (λ z. fits u x (images_held k.cache x) && z) (go xs (λ y t. h y (or_next (y == x) (member y xs) t)))

  same-wait : (o : Outcome) → verdict w.call now ≡ Done o → (u : Option Update) → o.update ≡ u → waits_with w o now u ≡ waits_with w o k u
  same-wait o e None p = await (awaited w.call o)
    where
      await : (a : Option Asked) → elim a as (λ z. Bool) [ None ↦ false | Some x ↦ is_owing w.begun (log.first x now.log) ] ≡ elim a as (λ z. Bool) [ None ↦ false | Some x ↦ is_owing w.begun (log.first x k.log) ]
      await None = refl
      await (Some x) = ap (λ z. is_owing w.begun (log.first x z)) less.log
  same-wait o e (Some u) p = ap (λ z. not z || (is_full now.log || ops_are_spent now.log)) (same-suits u o e p) ∙ ap (λ z. not (suits u k.cache) || (is_full z || ops_are_spent z)) less.log

  pub less-waits : T (does_wait w k) → T (does_wait w now)
  less-waits t = go (verdict w.call now) refl
    where
      k-is : verdict w.call k ≡ evaluate k.cache k.owed w.call (first_id k.ids)
      k-is = refl

      go : (v : Verdict) → verdict w.call now ≡ v → T (waits_by w now v)
      go (Need x h) e = tt
      go (NeedIds xs) e = tt
      go (Lost ns xs) e =
          let one = lost-still k now less w.call ns xs (sym (now-is k now less w.call) ∙ e) in
          absurd (subst (λ v. T (waits_by w k v)) one.2 t)
      go (Done o) e =
          let one = done-still k now less w.call o (sym (now-is k now less w.call) ∙ e) in
          subst T (sym (same-wait o e o.update refl)) (subst (λ v. T (waits_by w k v)) one t)
