-- Clerks that aren't at work stay idle.
use Rattle.std.proofs.Common.{◌≡◌, refl, sym, ap, ◌∙◌, arith, ◌+◌, ℕ, false, ◌==◌, ◌&&◌, cond, List, Option, Some}
use Rattle.ec_base.specs.declared.ids.Hold.{Hold}
use Rattle.ec_sessions.specs.declared.slot.Slot.{Slot}
use Rattle.ec_sessions.specs.OfTokens.Laws.{token-granted}
use Rattle.ec_sessions.specs.OfTokens.Tokens.{token, granted}
use Rattle.ec_sessions.specs.declared.tokens.token.Token.{Token}
use Rattle.ec_sessions.specs.declared.recall.want.Want.{Want}
use Rattle.ec_durable.specs.declared.state.Durable.{Durable}
use Rattle.ec_protocol.specs.declared.clerk.Clerk.{Clerk}
use Rattle.ec_protocol.specs.declared.server.Server.{Server}
use Rattle.ec_quiet.specs.Facts.{IsIn, IsIdleBut}
use Rattle.ec_machine_laws.specs.Holding.{left_at}
use Rattle.ec_machine_laws.specs.Records.{IsRestOf}
use Rattle.ec_machine_laws.specs.Serving.{lowering}
use Rattle.ec_machine_laws.proofs.Given.{lowered-tokens}
use Rattle.ec_quiet.specs.OfDeliveries.Orderly.{IsLike}

pub in-stays : (v w : Server) (c : ℕ) (sl : Slot) (k : Clerk) → IsLike v w c sl.session → IsIn v c sl k → IsIn w c sl k
in-stays v w c sl k like i = record {
  there = like.slot ∙ i.there;
  is_open = i.is_open;
  session = i.session;
  epoch = i.epoch ∙ sym like.epoch;
  claimed = like.claimed i.claimed;
  unowed = i.unowed;
  numbers = i.numbers;
  lasts = λ x. omega (arith, i.lasts x, like.number);
  capacity = i.capacity;
  room = i.room;
}

pub idle-stays : (xs : List ℕ) (v w : Server) (c : ℕ) (sl : Slot) (k : Clerk) → IsLike v w c sl.session → IsIdleBut xs v c sl k → IsIdleBut xs w c sl k
idle-stays xs v w c sl k like i = record {
  inside = in-stays v w c sl k like i.inside;
  free = i.free;
  waiting = i.waiting;
  pushes = i.pushes;
  asking = i.asking;
  window = i.window;
  grants = i.grants;
  answered = i.answered;
  same = λ x m. like.tokens x ∙ i.same x m;
}

-- Changes.

pub like-wants : (v : Server) (ws : List Want) (c s : ℕ) → IsLike v (record v { recalls = ws }) c s
like-wants v ws c s = record { slot = refl; epoch = refl; claimed = λ e. e; number = omega arith; tokens = λ x. refl }

pub like-grant : (v : Server) (ss x : ℕ) (h : Hold) (c s : ℕ) → (s == ss) ≡ false → IsLike v (record v { number = v.number + 1; tokens = granted ss x h (v.number + 1) v.tokens }) c s
like-grant v ss x h c s e = record {
  slot = refl;
  epoch = refl;
  claimed = λ q. q;
  number = omega arith;
  tokens = λ y. token-granted v.tokens ss x h (v.number + 1) s y ∙ ap (λ b. cond {A = Option Token} (b && (y == x)) (Some (record { hold = h; number = v.number + 1 })) (token v.tokens s y)) e;
}

pub like-back : (v : Server) (ss x : ℕ) (to : Hold) (n c s : ℕ) → (s == ss) ≡ false → IsLike v (lowering ss x to n v) c s
like-back v ss x to n c s e = record {
  slot = refl;
  epoch = refl;
  claimed = λ q. q;
  number = omega arith;
  tokens = λ y. lowered-tokens v.tokens ss x to n s y ∙ ap (λ b. cond (b && (y == x)) (left_at to n) (token v.tokens s y)) e;
}

pub like-record : (v : Server) (d : Durable) (a c s : ℕ) → IsRestOf a v.durable d → (c == a) ≡ false → IsLike v (record v { durable = d }) c s
like-record v d a c s rest e = record { slot = rest.others c e; epoch = rest.epoch; claimed = λ q. q; number = omega arith; tokens = λ x. refl }

pub like-both : (u v w : Server) (c s : ℕ) → IsLike u v c s → IsLike v w c s → IsLike u w c s
like-both u v w c s a b = record {
  slot = b.slot ∙ a.slot;
  epoch = b.epoch ∙ a.epoch;
  claimed = λ e. b.claimed (a.claimed e);
  number = omega (arith, a.number, b.number);
  tokens = λ x. b.tokens x ∙ a.tokens x;
}
