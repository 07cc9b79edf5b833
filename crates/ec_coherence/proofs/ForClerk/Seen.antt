-- The images to be seen change where a session holds Write: no message and no id that is on its way is about them.
use Rattle.std.proofs.Common.{◌≡◌, ◌≢◌, refl, sym, ap, subst, ◌∙◌, inl, inr, ◌⊎◌, arith, ℕ, Bool, true, false, not, T, ◌≤◌}
use Rattle.std.specs.Prelude.{◌==◌, Option, None, Some}
use Rattle.ec_base.specs.Tables.{at}
use Rattle.ec_base.specs.declared.ids.Hold.{Hold}
use Rattle.ec_base.specs.declared.ids.Hold.TheVariants.{Free, Read, Write}
use Rattle.ec_volume.specs.declared.image.Image.{Image}
use Rattle.ec_volume.specs.declared.image.Image.TheVariants.{Gone}
use Rattle.ec_base.specs.Holds.{rank, is_write, clash}
use Rattle.ec_wire.specs.Messages.{is_held_mode}
use Rattle.ec_wire.specs.declared.msg.Msg.{Msg}
use Rattle.ec_wire.specs.declared.msg.Msg.TheVariants.{Grant, Ids}
use Rattle.ec_cache.specs.Cache.{last}
use Rattle.ec_cache.specs.declared.state.Held.{Held}
use Rattle.ec_coherence.specs.System.{Eff}
use Rattle.ec_coherence.specs.Tokens.{Tables, View, Side, InSession, eff, eff_hold, Apart, Below, IdsFit, IsWrite, is_hidden, Fits, TablesAgree, TokensAgree}
use Rattle.ec_coherence.proofs.ForClerk.Sides.{while-map}
use Rattle.ec_coherence.proofs.ForServer.Tables.{differs, each-map, same_some}
use Rattle.ec_base.proofs.Options.{none_some}
use Rattle.ec_base.proofs.Numbers.{equal}

clash-write : (a b : Hold) → T (is_write a) → T (is_held_mode b) → T (not (clash a b)) → ⊥
clash-write Free b w h n = w
clash-write Read b w h n = w
clash-write Write Free w h n = h
clash-write Write Read w h n = n
clash-write Write Write w h n = n

write-above : (a b : Hold) → T (is_write a) → rank a ≤ rank b → T (is_write b)
write-above Free b w l = absurd w
write-above Read b w l = absurd w
write-above Write Free w l = absurd (omega arith)
write-above Write Read w l = absurd (omega arith)
write-above Write Write w l = tt

module _ (w : View) (s : ℕ) (k : Side) (seen : ℕ → ℕ → Image) (agree : TokensAgree w) (was : w.clerk s ≡ Some k) (its : T (w.is_open s))
    (changes : (t x : ℕ) → (seen t x ≡ w.seen t x) ⊎ ((T (w.taken t) → T (w.is_open t)) × IsWrite (at x k.cache.held))) where
  abbrev new : View
  new = record w { seen = seen }

  unwritten : (o : Option Held) → o ≡ None → IsWrite o → ⊥
  unwritten None p h = h
  unwritten (Some d) p h = absurd (none_some (sym p))

  -- who holds Write has it as an effective token
  written : (x : ℕ) → IsWrite (at x k.cache.held) → T (is_write (eff_hold (eff w s x)))
  written x h = go (at x k.cache.held) (eff w s x) h (agree.below s x k was)
    where
      go : (o : Option Held) (f : Option Eff) → IsWrite o → Below k.epoch (last x k.cache) o f → T (is_write (eff_hold f))
      go None f h b = absurd h
      go (Some d) None h b = absurd b
      go (Some d) (Some f) h b = write-above d.hold f.hold h b.0

  -- so another session has none
  nobody : (t x : ℕ) → T (w.is_open t) → IsWrite (at x k.cache.held) → (t == s) ≡ false → (g : Eff) → eff w t x ≡ Some g → ⊥
  nobody t x o h d g p = clash-write (eff_hold (eff w s x)) g.hold (written x h) (agree.held t x g p)
      (subst (λ f. Apart (eff w s x) f) p (agree.exclusive s t x (λ q. differs t s d (sym q)) its o))

  -- nothing is on its way about an image that changes
  stays : (t x : ℕ) (i : Image) → i ≡ w.seen t x → (g : Eff) → eff w t x ≡ Some g → (w.clerk t ≡ Some k → IsWrite (at x k.cache.held) → ⊥) → i ≡ seen t x
  stays t x i p g e none = elim (changes t x) [
    | inl q ↦ p ∙ sym q
    | inr q ↦ absurd (go (t == s) refl (q.0 (agree.known t x g e).1) q.1)
  ]
    where
      go : (b : Bool) → (t == s) ≡ b → T (w.is_open t) → IsWrite (at x k.cache.held) → ⊥
      go true z o h = none (ap w.clerk (equal t s z) ∙ was) h
      go false z o h = nobody t x o h z g e

  its-side : (t : ℕ) (j : Side) → w.clerk t ≡ Some j → w.clerk t ≡ Some k → j ≡ k
  its-side t j p q = same_some (sym p ∙ q)

  ids-kept : (t e got n first : ℕ) → InSession w t (IdsFit w t e got n first) → InSession new t (IdsFit new t e got n first)
  ids-kept t e got n first f j p a b x h = let q = f j p a b x h in
      (q.0, q.1, q.2, sym (stays t x Gone (sym q.3) _ q.0 (λ i z. unwritten (at x k.cache.held) (ap (λ y. at x y.cache.held) (sym (its-side t j p i)) ∙ q.1) z)))

  message-kept : (m : Msg) → Fits w m → Fits new m
  message-kept (Grant t e x n h i) q = (
    q.0,
    q.1,
    q.2,
    q.3,
    λ j p a l. let r = q.4 j p a l in
        (r.0, stays t x i r.1 _ r.0 (λ z y. r.2 (subst IsWrite (ap (λ u. at x u.cache.held) (sym (its-side t j p z))) y)), r.2),
  )
  message-kept (Ids t e got n first) q = (q.0, q.1, q.2, q.3, q.4, ids-kept t e got n first q.5)
  message-kept (Rattle.ec_wire.specs.declared.msg.Msg.TheVariants.Want t e x h n) q = q
  message-kept (Rattle.ec_wire.specs.declared.msg.Msg.TheVariants.Back t e x n h) q = q
  message-kept (Rattle.ec_wire.specs.declared.msg.Msg.TheVariants.Flush t e b ops) q = q
  message-kept (Rattle.ec_wire.specs.declared.msg.Msg.TheVariants.Room t e got ask) q = q
  message-kept (Rattle.ec_wire.specs.declared.msg.Msg.TheVariants.Claim t e l) q = q
  message-kept (Rattle.ec_wire.specs.declared.msg.Msg.TheVariants.Bye t e) q = q
  message-kept (Rattle.ec_wire.specs.declared.msg.Msg.TheVariants.Opened age t e) q = q
  message-kept (Rattle.ec_wire.specs.declared.msg.Msg.TheVariants.Recall t e x n h) q = q
  message-kept (Rattle.ec_wire.specs.declared.msg.Msg.TheVariants.Restarted t e) q = q
  message-kept _ q = q

  gone-kept : (t x : ℕ) → T (is_hidden w t x) → seen t x ≡ Gone
  gone-kept t x h = let a = agree.alone t x h in elim (changes t x) [
    | inl q ↦ q ∙ a.2
    | inr q ↦ absurd (go (t == s) refl q.1 a.0 a.1)
  ]
    where
      no-write : (f : Option Eff) → f ≡ None → T (is_write (eff_hold f)) → ⊥
      no-write None p z = z
      no-write (Some g) p z = absurd (none_some (sym p))

      go : (b : Bool) → (t == s) ≡ b → IsWrite (at x k.cache.held) → ((u : ℕ) → u ≢ t → (eff w u x ≡ None) × T (not (is_hidden w u x))) → InSession w t (λ j. (at x j.cache.held ≡ None) × (last x j.cache ≡ 0)) → ⊥
      go true z i f g = unwritten (at x k.cache.held) (g k (ap w.clerk (equal t s z) ∙ was)).0 i
      go false z i f g = no-write (eff w s x) (f s (λ p. differs t s z (sym p))).0 (written x i)

  tables-kept : (v : Tables) → w.tables ≡ Some v → TablesAgree w v → TablesAgree new v
  tables-kept v up a = record {
    sound = a.sound;
    are_open = a.are_open;
    epochs = a.epochs;
    others = a.others;
    wants = a.wants;
    apart = a.apart;
    numbers = a.numbers;
    recorded = λ t n p. let q = a.recorded t n p in (q.0, q.1, λ got g. ids-kept t w.epoch got n (w.first t) (q.2 got g));
    unrecorded = a.unrecorded;
  }

  pub seen-agrees : TokensAgree new
  seen-agrees = record {
    held = agree.held;
    holds = agree.holds;
    known = agree.known;
    next = agree.next;
    exclusive = agree.exclusive;
    below = agree.below;
    got = agree.got;
    given = agree.given;
    alone = λ t x h. let a = agree.alone t x h in (a.0, a.1, gone-kept t x h);
    lasts = agree.lasts;
    recalled = agree.recalled;
    present = agree.present;
    messages = each-map (λ m. Fits w m.1) (λ m. Fits new m.1) w.pool (λ m. message-kept m.1) agree.messages;
    tables = while-map w.tables (TablesAgree w) (TablesAgree new) tables-kept agree.tables;
  }
