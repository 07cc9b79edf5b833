-- Whole calls of a clerk in a session, how a step begins in hand, and the clerk by itself.
use Rattle.std.proofs.Common.{◌≡◌, refl, sym, ap, subst, ◌∙◌, arith, ◌&&◌, ℕ, Bool, true, false, ◌==◌, cond, [], ◌++◌, append-nil}
use Rattle.std.specs.Prelude.{Option, None, Some, is_some}
use Rattle.ec_volume.specs.Image.{entries_of, new_object}
use Rattle.ec_volume.specs.Update.{root}
use Rattle.ec_volume.specs.declared.image.Image.TheVariants.{Gone}
use Rattle.ec_volume.specs.declared.image.Kind.TheVariants as kind
use Rattle.ec_history.specs.History.{Each}
use Rattle.ec_wire.specs.declared.msg.Msg.TheVariants.{Bye}
use Rattle.ec_log.specs.declared.state.Asked.{Asked}
use Rattle.ec_protocol.specs.Clerk.{Doing, add_call, bye, claim, doing, flush, has_session, hello, new_clerk, resend, send, send_outstanding, session as own_session, settle, taken, is_session}
use Rattle.ec_protocol.specs.declared.clerk.Clerk.{Clerk}
use Rattle.ec_coherence.specs.System.{System, Ghost, if_in, with_start}
use Rattle.ec_coherence.specs.Opening.{opening}
use Rattle.ec_coherence.specs.Tokens.{Names, view}
use Rattle.ec_coherence.specs.Steps.{doing_in}
use Rattle.ec_coherence.proofs.ForClerk.KeyedSteps.{keyed-flush, keyed-resend, keyed-settle, keyed-taken}
use Rattle.ec_coherence.proofs.ForServer.Tables.{same_some}
use Rattle.ec_coherence.specs.CommitLaws.{AllAgree}
use Rattle.ec_coherence.proofs.Doings.{begins-stand}
use Rattle.ec_coherence.specs.StandLaws.{IsUnderWay}
use Rattle.ec_lawful.specs.OfClerkSteps.DoingLaws.{IsInHand, OrderStays}
use Rattle.ec_lawful.specs.OfClerkSteps.Names.{NamesAgree}
use Rattle.ec_lawful.specs.OfClerkSteps.Orderly.{IsOrderly, OrderlyAgree}
use Rattle.ec_lawful.proofs.OfClerkSteps.ForDoings.Hand as hand
use Rattle.ec_lawful.proofs.OfClerkSteps.ForDoings.Hand.{order-of, trim-of}
use Rattle.ec_lawful.proofs.OfClerkSteps.ForDoings.Logs.{empty-order}
use Rattle.ec_lawful.proofs.OfClerkSteps.ForDoings.Order.{IsTrim, trim-ask, trim-outstanding, trim-settle, trim-taken}
use Rattle.ec_lawful.proofs.OfClerkSteps.ForDoings.Restarting.{resends}
use Rattle.std.proofs.lemmas.Bool.{and_parts}
use Rattle.ec_base.proofs.Options.{none_some}
use Rattle.ec_base.proofs.Numbers.{equal}

-- A step begins.
module _ (g : System) (all : AllAgree g) (orderly : OrderlyAgree g) (names : NamesAgree g) (c b s : ℕ) (k : Clerk) (runs : g.running c ≡ Some b) (there : g.clerks c b ≡ Some k) (session : k.session ≡ Some s) where
  -- it's in no other session
  in-none : (t : ℕ) → (t == s) ≡ false → if_in t (g.clerks c b) ≡ None
  in-none t e = ap (if_in t) there ∙ ap (λ z. elim (is_session t z) as (λ y. Option Clerk) [ true ↦ Some k | false ↦ None ]) session ∙ ap (λ z. elim z as (λ y. Option Clerk) [ true ↦ Some k | false ↦ None ]) e

  begins-under : IsUnderWay g c b s (doing k) g.ghost
  begins-under = record {
    stands = begins-stand g all c b k runs there;
    age = k.age;
    owns = ((all.0).sessions.in_session c b s k there session).0;
    boot = ((all.0).sessions.starts c b k there).1;
    session = session;
    before = in-none;
  }

  same-clerks : with_start c b k g.clerks ≡ g.clerks
  same-clerks = λ j x y. point ((x == c) && (y == b)) x y refl j
    where
      point : (z : Bool) (x y : ℕ) → ((x == c) && (y == b)) ≡ z → elim z as (λ o. Option Clerk) [ true ↦ Some k | false ↦ g.clerks x y ] ≡ g.clerks x y
      point true x y e = let two = and_parts (x == c) (y == b) e in sym (ap (λ z. g.clerks z y) (equal x c two.0) ∙ ap (g.clerks c) (equal y b two.1) ∙ there)
      point false x y e = refl

  begins-names : NamesAgree (doing_in c b (doing k) g.ghost g)
  begins-names = subst (λ f. NamesAgree (record g { clerks = f; pool = g.pool ++ [] })) (sym same-clerks) (subst (λ p. NamesAgree (record g { pool = p })) (sym (append-nil g.pool)) names)

  pub begins : IsInHand g c b s (doing k) g.ghost
  begins = record { under_way = begins-under; orderly = orderly.each c b k there; names = begins-names }

  pub flushes : (a : Asked) → IsInHand g c b s (flush a k) g.ghost
  flushes a = hand.asks g c b s (doing k) g.ghost begins a

  has-one : has_session k ≡ true
  has-one = ap is_some session

  pub byes : IsInHand g c b s (bye k) g.ghost
  byes = subst (λ z. IsInHand g c b s (elim z as (λ y. Doing) [ true ↦ send (Bye (own_session (doing k)) k.epoch) (doing k) | false ↦ doing k ]) g.ghost) (sym has-one) (hand.byes g c b s (doing k) g.ghost begins)

  pub all-again : IsInHand g c b s (resend k) g.ghost
  all-again = subst (λ z. IsInHand g c b s (elim z as (λ y. Doing) [ true ↦ send_outstanding (claim (doing k)) | false ↦ hello (doing k) ]) g.ghost) (sym has-one) (resends g c b s g.ghost (doing k) begins)

-- The clerk by itself.

empty-start : (c boot : ℕ) → IsOrderly (new_clerk c boot)
empty-start c boot = order-of (new_clerk c boot) tt (tt, (λ t. refl), empty-order)

pub order-stays : OrderStays
order-stays = record {
  start = empty-start;
  taken = λ m s d o. order-of (taken m d).clerk (keyed-taken m d o.keyed) (trim-taken m s d (trim-of d.clerk o));
  settle = λ d o. order-of (settle d).clerk (keyed-settle d o.keyed) (trim-settle d (trim-of d.clerk o));
  add_call = λ cl k o. order-of (add_call cl k) o.keyed (trim-of k o);
  keep_push = λ n d o. order-of _ o.keyed (trim-of d.clerk o);
  flush = λ a k o. order-of (flush a k).clerk (keyed-flush a k o.keyed) (trim-ask a (doing k) (trim-of k o));
  bye = λ k o. byes-order k o;
  resend = λ k o. order-of (resend k).clerk (keyed-resend k o.keyed) (resends-trim k o);
}
  where
    byes-order : (k : Clerk) → IsOrderly k → IsOrderly (bye k).clerk
    byes-order k o = go (has_session k)
      where
        go : (z : Bool) → IsOrderly (elim z as (λ y. Doing) [ true ↦ send (Bye (own_session (doing k)) k.epoch) (doing k) | false ↦ doing k ]).clerk
        go true = o
        go false = o

    resends-trim : (k : Clerk) → IsOrderly k → IsTrim (resend k).clerk
    resends-trim k o = go (has_session k)
      where
        go : (z : Bool) → IsTrim (elim z as (λ y. Doing) [ true ↦ send_outstanding (claim (doing k)) | false ↦ hello (doing k) ]).clerk
        go true = trim-outstanding (claim (doing k)) (trim-of k o)
        go false = trim-of k o

-- with all of them
pub order-agrees : (g : System) (c b : ℕ) (d : Doing) (γ : Ghost) → OrderlyAgree g → IsOrderly d.clerk → OrderlyAgree (doing_in c b d γ g)
order-agrees g c b d γ a o = record { each = λ e f k p. go e f k ((e == c) && (f == b)) p }
  where
    go : (e f : ℕ) (k : Clerk) (z : Bool) → elim z as (λ y. Option Clerk) [ true ↦ Some d.clerk | false ↦ g.clerks e f ] ≡ Some k → IsOrderly k
    go e f k true p = subst IsOrderly (same_some p) o
    go e f k false p = a.each e f k p

-- at the beginning nobody has a session, and the root is alone
pub opening-order : (most : ℕ) → OrderlyAgree (opening most) × NamesAgree (opening most)
opening-order most = (
  record { each = λ c b k p. absurd (none_some p) },
  record {
    root = ((omega arith), λ s. tt);
    origin = λ x. go (x == root);
    kept = tt;
    frozen = λ s ks p. absurd (none_some p);
    ids = λ s k p. absurd (none_some p);
  },
)
  where
    go : (z : Bool) → Each (λ e. Names (view (opening most)) e.1) (entries_of (cond z (new_object kind.Dir) Gone))
    go true = tt
    go false = tt
