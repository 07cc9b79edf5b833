-- The clerk behind an answer: what calls under way, names and order read of it.
use Rattle.std.proofs.Common.{◌≡◌, refl, sym, ap, subst, ◌∙◌, ◌≤◌, ◌+◌, arith, ℕ, Bool, true, false, T, List, [], ◌∷◌, ◌++◌, Option, Some, None}
use Rattle.std.specs.Prelude.{◌&&◌, drop, nat_le}
use Rattle.std.proofs.lemmas.Bool.Decides.{nat_tests}
use Rattle.ec_volume.specs.Update.{distinct, is_make, is_sound, member, operands}
use Rattle.ec_volume.specs.declared.update.Update.{Update}
use Rattle.ec_plain.specs.declared.call.Outcome.{Outcome}
use Rattle.ec_cache.specs.Cache as cache
use Rattle.ec_log.specs.LogOrder.{is_from}
use Rattle.ec_cache.specs.declared.resolve.verdict.Verdict.{Verdict}
use Rattle.ec_cache.specs.declared.resolve.verdict.Verdict.TheVariants.{Need, Lost, NeedIds, Done}
use Rattle.ec_protocol.specs.Clerk.{less_id, suits}
use Rattle.ec_protocol.specs.declared.clerk.Clerk.{Clerk}
use Rattle.ec_coherence.specs.ChangeLaws.{with_answer}
use Rattle.ec_coherence.proofs.ForClerk.Keyed.{keyed-all-changed, keyed-all-used}
use Rattle.ec_lawful.specs.OfClerkSteps.Orderly.{IsOrderly}
use Rattle.ec_lawful.proofs.OfClerkSteps.ForDoings.Hand.{order-of, trim-of}
use Rattle.ec_lawful.proofs.OfClerkSteps.ForDoings.Logs.{issue-order}
use Rattle.ec_lawful.specs.OfClerkSteps.Answering.{Suits, answered_clerk, done_clerk}
use Rattle.ec_lawful.proofs.OfClerkSteps.SameStores.{in-left, once-left}
use Rattle.ec_base.proofs.Bools.{left as and_first}

-- What stays.

pub record IsKept (k now : Clerk) : Type 0 where
  pub got : now.got ≡ k.got
  pub waiting : now.waiting ≡ k.waiting
  pub calls : now.calls ≡ k.calls
  pub first : now.log.first ≡ k.log.first
  pub fewer : (x : ℕ) → T (member x now.ids) → T (member x k.ids)
  pub once : T (distinct k.ids) → T (distinct now.ids)
  pub from : T (is_from k.log.first k.log.undurable) → k.log.first ≤ k.log.next → T (is_from now.log.first now.log.undurable)
  pub begun : k.log.first ≤ k.log.next → now.log.first ≤ now.log.next
  pub orderly : IsOrderly k → IsOrderly now

from-more : (n m : ℕ) (u : Update) (os : List (ℕ × Update)) → T (is_from n os) → n ≤ m → T (is_from n (os ++ (m, u) ∷ []))
from-more n m u [] f l = both (nat_le n m) (above n m l)
  where
    both : (b : Bool) → T b → T (b && true)
    both true t = tt
    both false t = t

    above : (n m : ℕ) → n ≤ m → T (nat_le n m)
    above n m l = subst T (sym (is n m l)) tt
      where
        is : (n m : ℕ) → n ≤ m → nat_le n m ≡ true
        is n m l = grind (arith, nat_tests)
from-more n m u (o ∷ os) f l = go (nat_le n o.0) f (λ t. from-more n m u os t l)
  where
    go : (b : Bool) → T (b && is_from n os) → (T (is_from n os) → T (is_from n (os ++ (m, u) ∷ []))) → T (b && is_from n (os ++ (m, u) ∷ []))
    go true f r = r f
    go false f r = f

module _ (k : Clerk) where
  still : IsKept k k
  still = record { got = refl; waiting = refl; calls = refl; first = refl; fewer = λ x m. m; once = λ d. d; from = λ f l. f; begun = λ l. l; orderly = λ o. o }

  used : (xs : List ℕ) (q : Rattle.ec_cache.specs.OfReport.Report.Owed) → IsKept k (record k { owed = q; cache = cache.all_used xs k.cache })
  used xs q = record {
    got = refl;
    waiting = refl;
    calls = refl;
    first = refl;
    fewer = λ x m. m;
    once = λ d. d;
    from = λ f l. f;
    begun = λ l. l;
    orderly = λ o. order-of (record k { owed = q; cache = cache.all_used xs k.cache }) (keyed-all-used xs k.cache o.keyed) (trim-of k o);
  }

  none-left : (u : Update) (ids : List ℕ) → ids ≡ [] → less_id u ids ≡ []
  none-left u ids p = ap (less_id u) p ∙ go (is_make u)
    where
      go : (z : Bool) → (elim z as (λ y. List ℕ) [ true ↦ drop 1 [] | false ↦ [] ]) ≡ []
      go true = refl
      go false = refl

  issued : (u : Update) (xs : List ℕ) → T (suits u k.cache) → IsKept k (with_answer u xs k)
  issued u xs fits = record {
    got = refl;
    waiting = refl;
    calls = refl;
    first = refl;
    fewer = λ x m. in-left x u k.ids m;
    once = λ d. once-left u k.ids d;
    from = λ f l. from-more k.log.first k.log.next u k.log.undurable f l;
    begun = λ l. more k.log.first k.log.next l;
    orderly = λ o. order-of (with_answer u xs k) (keyed-all-used xs (cache.change u (operands u) k.cache) (keyed-all-changed u (operands u) k.cache o.keyed))
        (let t = trim-of k o in (t.0, (λ i. none-left u k.ids (t.1 i)), issue-order k.log t.2 u (and_first (is_sound u) _ fits)));
  }
    where
      more : (a b : ℕ) → a ≤ b → a ≤ b + 1
      more a b l = omega (arith, l)

  done : (o : Outcome) (u : Option Update) → ((w : Update) → u ≡ Some w → T (suits w k.cache)) → IsKept k (done_clerk o u k)
  done o None f = used o.touched k.owed
  done o (Some u) f = issued u o.touched (f u refl)

  pub answered-kept : (v : Verdict) → Suits v k → IsKept k (answered_clerk v k)
  answered-kept (Need x h) f = still
  answered-kept (Lost ns xs) f = used xs (Rattle.ec_cache.specs.OfReport.Report.clear xs k.owed)
  answered-kept (NeedIds xs) f = used xs k.owed
  answered-kept (Done o) f = done o o.update f
