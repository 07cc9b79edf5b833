-- The images that one session is to see change where its clerk holds Write, whether it's open or not: no message and no id that is on its way is about them.
use Rattle.std.proofs.Common.{◌≡◌, sym, ap, subst, ◌∙◌, inl, inr, ◌⊎◌, ℕ, T}
use Rattle.std.specs.Prelude.{Option, None, Some}
use Rattle.ec_base.specs.Tables.{at}
use Rattle.ec_volume.specs.declared.image.Image.{Image}
use Rattle.ec_volume.specs.declared.image.Image.TheVariants.{Gone}
use Rattle.ec_wire.specs.declared.msg.Msg.{Msg}
use Rattle.ec_wire.specs.declared.msg.Msg.TheVariants.{Grant, Ids}
use Rattle.ec_cache.specs.declared.state.Held.{Held}
use Rattle.ec_coherence.specs.Tokens.{Fits, IdsFit, InSession, IsWrite, Side, Tables, TablesAgree, TokensAgree, View, is_hidden}
use Rattle.ec_coherence.proofs.ForClerk.Sides.{while-map}
use Rattle.ec_coherence.proofs.ForServer.Tables.{each-map, same_some}
use Rattle.ec_base.proofs.Options.{none_some}

module _ (w : View) (s : ℕ) (k : Side) (seen : ℕ → ℕ → Image) (agree : TokensAgree w) (was : w.clerk s ≡ Some k) (changes : (t x : ℕ) → (seen t x ≡ w.seen t x) ⊎ ((t ≡ s) × IsWrite (at x k.cache.held))) where
  abbrev new : View
  new = record w { seen = seen }

  unwritten : (o : Option Held) → o ≡ None → IsWrite o → ⊥
  unwritten None p h = h
  unwritten (Some d) p h = absurd (none_some (sym p))

  -- nothing is on its way about an image that changes
  stays : (t x : ℕ) (i : Image) → i ≡ w.seen t x → (w.clerk t ≡ Some k → IsWrite (at x k.cache.held) → ⊥) → i ≡ seen t x
  stays t x i p none = elim (changes t x) [ inl q ↦ p ∙ sym q | inr q ↦ absurd (none (ap w.clerk q.0 ∙ was) q.1) ]

  its-side : (t : ℕ) (j : Side) → w.clerk t ≡ Some j → w.clerk t ≡ Some k → j ≡ k
  its-side t j p q = same_some (sym p ∙ q)

  ids-kept : (t e got n first : ℕ) → InSession w t (IdsFit w t e got n first) → InSession new t (IdsFit new t e got n first)
  ids-kept t e got n first f j p a b x h = let q = f j p a b x h in
      (q.0, q.1, q.2, sym (stays t x Gone (sym q.3) (λ i z. unwritten (at x k.cache.held) (ap (λ y. at x y.cache.held) (sym (its-side t j p i)) ∙ q.1) z)))

  message-kept : (m : Msg) → Fits w m → Fits new m
  message-kept (Grant t e x n h i) q = (
    q.0,
    q.1,
    q.2,
    q.3,
    λ j p a l. let r = q.4 j p a l in (r.0, stays t x i r.1 (λ z y. r.2 (subst IsWrite (ap (λ u. at x u.cache.held) (sym (its-side t j p z))) y)), r.2),
  )
  message-kept (Ids t e got n first) q = (q.0, q.1, q.2, q.3, q.4, ids-kept t e got n first q.5)
  message-kept (Rattle.ec_wire.specs.declared.msg.Msg.TheVariants.Want t e x h n) q = q
  message-kept (Rattle.ec_wire.specs.declared.msg.Msg.TheVariants.Back t e x n h) q = q
  message-kept (Rattle.ec_wire.specs.declared.msg.Msg.TheVariants.Flush t e b ops) q = q
  message-kept (Rattle.ec_wire.specs.declared.msg.Msg.TheVariants.Room t e got ask) q = q
  message-kept (Rattle.ec_wire.specs.declared.msg.Msg.TheVariants.Claim t e l) q = q
  message-kept (Rattle.ec_wire.specs.declared.msg.Msg.TheVariants.Bye t e) q = q
  message-kept (Rattle.ec_wire.specs.declared.msg.Msg.TheVariants.Opened age t e) q = q
  message-kept (Rattle.ec_wire.specs.declared.msg.Msg.TheVariants.Recall t e x n h) q = q
  message-kept (Rattle.ec_wire.specs.declared.msg.Msg.TheVariants.Restarted t e) q = q
  message-kept _ q = q

  gone-kept : (t x : ℕ) → T (is_hidden w t x) → seen t x ≡ Gone
  gone-kept t x h = let a = agree.alone t x h in elim (changes t x) [
    | inl q ↦ q ∙ a.2
    | inr q ↦ absurd (unwritten (at x k.cache.held) (a.1 k (ap w.clerk q.0 ∙ was)).0 q.1)
  ]

  tables-kept : (v : Tables) → w.tables ≡ Some v → TablesAgree w v → TablesAgree new v
  tables-kept v up a = record {
    sound = a.sound;
    are_open = a.are_open;
    epochs = a.epochs;
    others = a.others;
    wants = a.wants;
    apart = a.apart;
    numbers = a.numbers;
    recorded = λ t n p. let q = a.recorded t n p in (q.0, q.1, λ got g. ids-kept t w.epoch got n (w.first t) (q.2 got g));
    unrecorded = a.unrecorded;
  }

  pub late-seen-agrees : TokensAgree new
  late-seen-agrees = record {
    held = agree.held;
    holds = agree.holds;
    known = agree.known;
    next = agree.next;
    exclusive = agree.exclusive;
    below = agree.below;
    got = agree.got;
    given = agree.given;
    alone = λ t x h. let a = agree.alone t x h in (a.0, a.1, gone-kept t x h);
    lasts = agree.lasts;
    recalled = agree.recalled;
    present = agree.present;
    messages = each-map (λ m. Fits w m.1) (λ m. Fits new m.1) w.pool (λ m. message-kept m.1) agree.messages;
    tables = while-map w.tables (TablesAgree w) (TablesAgree new) tables-kept agree.tables;
  }
