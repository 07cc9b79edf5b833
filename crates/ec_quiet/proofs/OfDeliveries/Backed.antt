-- A holder is at work, and idle again once it gave back what was recalled.
use Rattle.std.proofs.Common.{◌≡◌, refl, sym, ap, subst, ◌∙◌, arith, ℕ, T, Bool, true, false, not, ◌==◌, ◌||◌, [], ◌∷◌, Some}
use Rattle.std.proofs.lemmas.Bool.{eqb-true, true≢false}
use Rattle.ec_base.specs.Tables.{Table}
use Rattle.ec_base.specs.declared.ids.Hold.{Hold}
use Rattle.ec_base.specs.declared.ids.Hold.TheVariants.{Free, Read, Write}
use Rattle.ec_volume.specs.Update.{member}
use Rattle.ec_sessions.specs.declared.slot.Slot.{Slot}
use Rattle.ec_sessions.specs.OfTokens.Tokens.{token}
use Rattle.ec_sessions.specs.declared.tokens.token.Token.{Token}
use Rattle.ec_durable.specs.Durable.{slot}
use Rattle.ec_protocol.specs.Server.{serving, has_claimed, is_claimed}
use Rattle.ec_protocol.specs.declared.clerk.Clerk.{Clerk}
use Rattle.ec_protocol.specs.declared.server.Server.{Server}
use Rattle.ec_quiet.specs.Facts.{IsOrderly, IsIdleBut, Same, session_clerk as clerk_of}
use Rattle.ec_quiet.specs.Phases.{lowered_to}
use Rattle.ec_machine_laws.specs.Holding.{left_at}
use Rattle.ec_machine_laws.specs.Serving.{IsAtWork}
use Rattle.ec_quiet.specs.OfDeliveries.Orderly.{IsLikeBut}
use Rattle.ec_quiet.proofs.OfDeliveries.Ordering.{all-at}
use Rattle.ec_base.proofs.Numbers.{same-self}

-- a holder is at work: its clerk's slot is open with its session, which has claimed
pub record IsHolder (v : Server) (s : ℕ) : Type 0 where
  pub slot_is : Slot
  pub there : slot v.durable (clerk_of v s) ≡ Some slot_is
  pub session : slot_is.session ≡ s
  pub is_open : slot_is.is_open ≡ true

pub holder-of : (v : Server) (clerks : Table Clerk) (s x : ℕ) (t : Token) → IsOrderly v clerks → token v.tokens s x ≡ Some t → IsHolder v s
holder-of v clerks s x t o e =
    let h = o.holders s x t e in
    let own : clerk_of v s ≡ h.0 = ap (clerk_of v) (sym h.3) ∙ o.own h.0 h.1 h.2 in
    record { slot_is = h.1; there = ap (slot v.durable) own ∙ h.2; session = h.3; is_open = h.4 }

pub holder-works : (v : Server) (clerks : Table Clerk) (s : ℕ) → IsOrderly v clerks → (a : IsHolder v s) → IsAtWork (clerk_of v s) s v.durable.epoch a.slot_is (serving v)
holder-works v clerks s o a = record {
  slot = a.there;
  session = ap (λ z. z == s) a.session ∙ same-self s;
  is_open = a.is_open;
  epoch = same-self v.durable.epoch;
  claimed = claimed a.slot_is a.there a.is_open a.session (all-at (is_claimed v) v.durable.sessions refl o.claimed (clerk_of v s));
}
  where
    both : (b c : Bool) → b ≡ true → (not b || c) ≡ true → c ≡ true
    both true c e f = f
    both false c e f = absurd (true≢false (sym e))

    claimed : (sl : Slot) → slot v.durable (clerk_of v s) ≡ Some sl → sl.is_open ≡ true → sl.session ≡ s → is_claimed v (slot v.durable (clerk_of v s)) ≡ true → has_claimed s v ≡ true
    claimed sl there live own e = sym (ap (λ z. has_claimed z v) own) ∙ both sl.is_open (has_claimed sl.session v) live (sym (ap (is_claimed v) there) ∙ e)

-- what was given back is what the clerk has
pub lowered-left : (h : Hold) (n : ℕ) → lowered_to h n ≡ left_at h n
lowered-left Free n = refl
lowered-left Read n = refl
lowered-left Write n = refl

-- The clerk that gave back is idle again, where the server has what it gave.
pub returned-idle : (x : ℕ) (v w : Server) (c : ℕ) (sl : Slot) (k : Clerk) → IsLikeBut (x ∷ []) v w c sl.session → Same w sl.session k x → IsIdleBut (x ∷ []) v c sl k → IsIdleBut [] w c sl k
returned-idle x v w c sl k like here i = record {
  inside = record {
    there = like.slot ∙ i.inside.there;
    is_open = i.inside.is_open;
    session = i.inside.session;
    epoch = i.inside.epoch ∙ sym like.epoch;
    claimed = like.claimed i.inside.claimed;
    unowed = i.inside.unowed;
    numbers = i.inside.numbers;
    lasts = λ y. omega (arith, i.inside.lasts y, like.number);
    capacity = i.inside.capacity;
    room = i.inside.room;
  };
  free = i.free;
  waiting = i.waiting;
  pushes = i.pushes;
  asking = i.asking;
  window = i.window;
  grants = i.grants;
  answered = i.answered;
  same = λ y m. go y (y == x) refl;
}
  where
    go : (y : ℕ) (b : Bool) → (y == x) ≡ b → Same w sl.session k y
    go y true e = subst (Same w sl.session k) (sym (eqb-true y x e)) here
    go y false e = like.tokens y (outside e) ∙ i.same y (outside e)
      where
        outside : (y == x) ≡ false → T (not (member y (x ∷ [])))
        outside q = subst (λ b. T (not (b || false))) (sym q) tt

pub holders-work : (v : Server) (clerks : Table Clerk) (s x : ℕ) (t : Token) → IsOrderly v clerks → token v.tokens s x ≡ Some t → (sl : Slot) × IsAtWork (clerk_of v s) s v.durable.epoch sl (serving v)
holders-work v clerks s x t o e = let a = holder-of v clerks s x t o e in (a.slot_is, holder-works v clerks s o a)
