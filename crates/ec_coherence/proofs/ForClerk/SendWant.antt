-- A clerk sends wants and asks for ids.
use Rattle.std.proofs.Common.{◌≡◌, refl, sym, subst, ◌∙◌, arith, ℕ, Bool, true, false, not, ◌&&◌, ◌+◌, T, ◌<◌, List, [], ◌∷◌}
use Rattle.std.specs.Prelude.{◌^◌, Option, None, Some, nat_lt, nat_le, is_none}
use Rattle.std.specs.List.{list_any}
use Rattle.ec_base.specs.Tables.{at}
use Rattle.ec_base.specs.declared.counter.Counter.TheVariants as counter
use Rattle.ec_base.specs.declared.ids.Hold.{Hold}
use Rattle.ec_history.specs.History.{Each}
use Rattle.ec_base.specs.Holds.{rank, is_below}
use Rattle.ec_wire.specs.Messages.{is_held_mode}
use Rattle.ec_wire.specs.declared.msg.Msg.TheVariants.{Want, Room}
use Rattle.ec_cache.specs.Cache as cache
use Rattle.ec_cache.specs.Cache.{last}
use Rattle.ec_cache.specs.declared.state.Held.{Held}
use Rattle.ec_protocol.specs.Clerk.{Doing, spend, session, epoch, has_session, under_recall, may_want, wanted, is_wanted, send_want, want, is_need, resend_want, resend_needs, send_room, ask_anew, ask_room, resend_room}
use Rattle.ec_coherence.specs.Clerks.{acting}
use Rattle.ec_coherence.specs.Tokens.{Tables, View, WhileUp, Side, side, Names, WantFits, HeldBelow, RoomFits}
use Rattle.ec_coherence.proofs.ForClerk.Acting.{is-in, session-is}
use Rattle.ec_coherence.proofs.ForClerk.Goes.{Goes, name-now, goes-send, goes-rest, goes-spend, passed-now}
use Rattle.ec_coherence.proofs.ForServer.Tables.{same_some}

pub while-all : (o : Option Tables) (P : Tables → Type 0) → ((v : Tables) → P v) → WhileUp o P
while-all None P f = tt
while-all (Some v) P f = f v

module _ (w : View) (c s : ℕ) (d : Doing) where
  -- of the clerk in the session
  pub of-now : (e : Doing) → Goes w c s d e → (P : Side → Type 0) → P (side e.clerk) → (j : Side) → (acting w c s e).clerk (session e) ≡ Some j → P j
  of-now e g P p j i = subst P (same_some (sym (is-in w c s e) ∙ subst (λ t. (acting w c s e).clerk t ≡ Some j) (session-is w c s e g.session) i)) p

  module _ (x : ℕ) (h : Hold) (held : T (is_held_mode h)) (names : Names (acting w c s d) x) where
    -- one goes out where the whole mode held is below it
    pub goes-want : (e : Doing) → Goes w c s d e → is_below (cache.mode x e.clerk.cache) h ≡ true → Goes w c s d (send_want x h e)
    goes-want e g below =
        let r = goes-rest w c s d e g (record (e.clerk) { wanted = wanted x h e.clerk ∷ e.clerk.wanted }) refl refl in
        goes-send w c s d _ r (Want (session e) (epoch e) x h (last x e.clerk.cache))
        (passed-now w c s d _ r, held, name-now w c s d _ r x names, of-now _ r (λ k. WantFits k.epoch (epoch e) h (last x e.clerk.cache) (at x k.cache.held) (last x k.cache)) (λ a. (omega arith, low (at x e.clerk.cache.held) below)))
      where
        low : (o : Option Held) → is_below (cache.held_mode o) h ≡ true → HeldBelow o (last x e.clerk.cache) h
        low None b = tt
        low (Some k) b = λ z. less (rank k.hold) (rank h) b
          where
            less : (a b : ℕ) → nat_lt a b ≡ true → a < b
            less a b p = grind arith

    pub goes-want-once : (e : Doing) → Goes w c s d e → Goes w c s d (want x h e)
    goes-want-once e g = go (may_want x h e.clerk && not (list_any (is_wanted (wanted x h e.clerk)) e.clerk.wanted)) refl
      where
        below : (a b c z : Bool) → ((a && b && c) && z) ≡ true → c ≡ true
        below a b c z p = grind arith

        go : (b : Bool) → (may_want x h e.clerk && not (list_any (is_wanted (wanted x h e.clerk)) e.clerk.wanted)) ≡ b → Goes w c s d (elim b [ true ↦ send_want x h e | false ↦ e ])
        go true p = goes-want e g (below (has_session e.clerk) (not (under_recall x e.clerk)) (is_below (cache.mode x e.clerk.cache) h) _ p)
        go false p = g

    pub goes-want-again : (sent : List (ℕ × Hold)) (e : Doing) → Goes w c s d e → Goes w c s d (resend_want x h sent e)
    goes-want-again sent e g = go (may_want x h e.clerk && not (list_any (is_need x h) sent)) refl
      where
        below : (a b c z : Bool) → ((a && b && c) && z) ≡ true → c ≡ true
        below a b c z p = grind arith

        go : (b : Bool) → (may_want x h e.clerk && not (list_any (is_need x h) sent)) ≡ b → Goes w c s d (elim b [ true ↦ send_want x h e | false ↦ e ])
        go true p = goes-want e g (below (has_session e.clerk) (not (under_recall x e.clerk)) (is_below (cache.mode x e.clerk.cache) h) _ p)
        go false p = g

  -- what calls need: held modes, on named objects
  pub goes-needs : (sent ps : List (ℕ × Hold)) (e : Doing) → Goes w c s d e → Each (λ p. T (is_held_mode p.1) × Names (acting w c s d) p.0) ps → Goes w c s d (resend_needs sent ps e)
  goes-needs sent [] e g n = g
  goes-needs sent (p ∷ ps) e g n = goes-needs (p ∷ sent) ps _ (goes-want-again p.0 p.1 n.0.0 n.0.1 sent e g) n.1

  -- Rooms.

  pub goes-room : (n : ℕ) (e : Doing) → Goes w c s d e → Goes w c s d (send_room n e)
  goes-room n e g = goes-send w c s d e g (Room (session e) (epoch e) e.clerk.got n) (
    passed-now w c s d e g,
    of-now e g (RoomFits (acting w c s e) (session e) (epoch e) e.clerk.got) (omega arith, λ a o. while-all w.tables _ (λ v r z. refl)),
  )

  pub goes-ask-anew : (e : Doing) → Goes w c s d e → Goes w c s d (ask_anew e)
  goes-ask-anew e g = go (nat_le (2 ^ 62) e.clerk.asks)
    where
      go : (b : Bool) → Goes w c s d (elim b [ true ↦ spend counter.Ask e | false ↦ send_room (e.clerk.asks + 1) (record e { clerk = record (e.clerk) { asking = Some (e.clerk.asks + 1); asks = e.clerk.asks + 1 } }) ])
      go true = goes-spend w c s d e g counter.Ask
      go false = goes-room (e.clerk.asks + 1) _ (goes-rest w c s d e g (record (e.clerk) { asking = Some (e.clerk.asks + 1); asks = e.clerk.asks + 1 }) refl refl)

  pub goes-ask-room : (e : Doing) → Goes w c s d e → Goes w c s d (ask_room e)
  goes-ask-room e g = go (has_session e.clerk && is_none e.clerk.asking)
    where
      go : (b : Bool) → Goes w c s d (elim b [ true ↦ ask_anew e | false ↦ e ])
      go true = goes-ask-anew e g
      go false = g

  pub goes-room-again : (o : Option ℕ) (e : Doing) → Goes w c s d e → Goes w c s d (resend_room o e)
  goes-room-again None e g = g
  goes-room-again (Some n) e g = goes-room n e g
