-- Moments of a server's links one after another.
use Rattle.std.proofs.Common.{◌≡◌, ◌⊎◌, ◌+◌, ◌<◌, ◌≤◌, ℕ, true, false, List, [], ◌∷◌, ◌++◌, map, refl, sym, ap, ◌∙◌, subst, inl, inr, ⊎_elim, append-nil, arith}
use Rattle.std.specs.declared.snapshot.Snapshot.{Snapshot}
use Rattle.std.proofs.lemmas.List.{append_assoc, map-append}
use mathlib.Core.List.{IsPrefix}
use Rattle.ec_link.specs.Happenings.{total}
use Rattle.ec_link.specs.Nets.{Ended}
use Rattle.ec_lock.specs.Steps.{Member, of}
use Rattle.ec_lock.proofs.Numbers.{member_append, member_left, member_right, distinct_append}
use Rattle.ec_servernode.specs.declared.step.Step.{Step}
use Rattle.ec_servernode.specs.Run.{number_of}
use Rattle.ec_attend.specs.Links.{Carries}
use Rattle.ec_serve.specs.OfThreads.Moments.{Back, IsOver, AreServed}
use Rattle.ec_serve.specs.OfThreads.ServingMoments.{Moment, CameBack, GoesOn}

of_none : (n : ℕ) → n ≡ 0 + n
of_none n = omega arith

of_one : (a n l m : ℕ) → n ≡ l + m → a + n ≡ a + l + m
of_one a n l m e = omega (arith, e)

total_append : {A : Type 0} (f : A → ℕ) (xs ys : List A) → total f (xs ++ ys) ≡ total f xs + total f ys
total_append f [] ys = of_none (total f ys)
total_append f (x ∷ xs) ys = of_one (f x) (total f (xs ++ ys)) (total f xs) (total f ys) (total_append f xs ys)

prefix_on : {A : Type 0} (xs ys zs : List A) → IsPrefix xs ys → IsPrefix ys zs → IsPrefix xs zs
prefix_on xs ys zs p q = (p.0 ++ q.0, sym (append_assoc xs p.0 q.0) ∙ (ap (λ w. w ++ q.0) p.1 ∙ q.1))

-- a link that is over stays so
pub over_later : (steps later : List Step) → IsPrefix steps later → (n : ℕ) (l : Back) → IsOver n steps l → IsOver n later l
over_later steps later pre n l (inl bad) = inl bad
over_later steps later pre n l (inr (inl refused)) = inr (inl refused)
over_later steps later pre n l (inr (inr r)) = inr (inr (record { before = r.before; later = prefix_on r.before steps later r.later pre; replaced = r.replaced }))

-- what the pass of each link did stands in a later list as it does in this one
pub served_later : (steps later : List Step) (ns : List ℕ) (ls : List Back) → IsPrefix steps later → ((n : ℕ) → Member n ns → of number_of n steps ≡ of number_of n later) → AreServed steps ns ls → AreServed later ns ls
served_later steps later [] [] pre same h = h
served_later steps later [] (l ∷ ls) pre same h = h
served_later steps later (n ∷ ns) [] pre same h = h
served_later steps later (n ∷ ns) (l ∷ ls) pre same h = (subst (λ own. Carries own l.0.0 l.0.1) (same n (inl refl)) h.0, over_later steps later pre n l h.1, served_later steps later ns ls pre (λ k m. same k (inr m)) h.2)

served_append : (steps : List Step) (ns ms : List ℕ) (ls ks : List Back) → AreServed steps ns ls → AreServed steps ms ks → AreServed steps (ns ++ ms) (ls ++ ks)
served_append steps [] ms [] ks h more = more
served_append steps [] ms (l ∷ ls) ks h more = absurd h
served_append steps (n ∷ ns) ms [] ks h more = absurd h
served_append steps (n ∷ ns) ms (l ∷ ls) ks h more = (h.0, h.1, served_append steps ns ms ls ks h.2 more)

module _ {N L : Type 0} (faults_of bad_of : N → ℕ) (ended_of : N → List Ended) (back_of : Snapshot L → Back) where
  -- nothing came back
  pub goes_still : (a b : Moment N L) → faults_of a.net ≤ faults_of b.net → b.left + b.begun ≡ a.left + a.begun → (b.failed ≡ true → (a.failed ≡ true) ⊎ (faults_of a.net < faults_of b.net)) → b.back ≡ a.back
      → (b.wants ≡ false → a.wants ≡ false) → ended_of b.net ≡ ended_of a.net → bad_of b.net ≡ bad_of a.net → ((n : ℕ) → Member n a.joined → Member n b.joined) → IsPrefix a.steps b.steps → ((n : ℕ) → Member n a.joined → of number_of n a.steps ≡ of number_of n b.steps) → GoesOn faults_of bad_of ended_of back_of a b
  goes_still a b counts number fails back wants ended bad kept later same = record {
    counts = counts;
    number = number;
    fails = fails;
    more = [];
    back = back ∙ sym (append-nil a.back);
    passes = [];
    kept = kept;
    joined = λ n none. absurd none;
    later = later;
    distinct = tt;
    apart = λ n m none. none;
    same = same;
    links = λ e. record { wants = wants e; ended = ended ∙ sym (append-nil (ended_of a.net)); bad = (let equal = bad in omega (arith, equal)); own = tt };
  }

  pub goes_same : (a : Moment N L) → GoesOn faults_of bad_of ended_of back_of a a
  goes_same a = goes_still a a (omega arith) refl (λ e. inl e) refl (λ e. e) refl refl (λ n m. m) ([], append-nil a.steps) (λ n m. refl)

  pub goes_onward : (a b c : Moment N L) → GoesOn faults_of bad_of ended_of back_of a b → GoesOn faults_of bad_of ended_of back_of b c → GoesOn faults_of bad_of ended_of back_of a c
  goes_onward a b c p q = record {
    counts = (let first = p.counts in let then = q.counts in omega (arith, first, then));
    number = q.number ∙ p.number;
    fails = λ e. ⊎_elim (λ (was : b.failed ≡ true). before (p.fails was)) (λ (rose : faults_of b.net < faults_of c.net). inr (let first = p.counts in omega (arith, first, rose))) (q.fails e);
    more = p.more ++ q.more;
    back = q.back ∙ (ap (λ l. l ++ q.more) p.back ∙ append_assoc a.back p.more q.more);
    passes = p.passes ++ q.passes;
    kept = λ n m. q.kept n (p.kept n m);
    joined = λ n m. ⊎_elim (λ (first : Member n p.passes). q.kept n (p.joined n first)) (λ (then : Member n q.passes). q.joined n then) (member_append n p.passes q.passes m);
    later = prefix_on a.steps b.steps c.steps p.later q.later;
    distinct = distinct_append p.passes q.passes p.distinct q.distinct (λ n m. q.apart n (theirs n m));
    apart = λ n m both. ⊎_elim (λ (first : Member n p.passes). p.apart n m first) (λ (then : Member n q.passes). q.apart n (was n m) then) (member_append n p.passes q.passes both);
    same = λ n m. p.same n m ∙ q.same n (was n m);
    links = λ e. both (q.links e) (p.links (q.links e).wants);
  } where
    -- what was joined stays joined
    was : (n : ℕ) → Member n a.joined → Member n b.joined
    was = p.kept

    theirs : (n : ℕ) → Member n p.passes → Member n b.joined
    theirs = p.joined

    before : (a.failed ≡ true) ⊎ (faults_of a.net < faults_of b.net) → (a.failed ≡ true) ⊎ (faults_of a.net < faults_of c.net)
    before e = ⊎_elim (λ (was : a.failed ≡ true). inl was) (λ (rose : faults_of a.net < faults_of b.net). inr (let then = q.counts in omega (arith, then, rose))) e

    both : CameBack faults_of bad_of ended_of back_of b c q.more q.passes → CameBack faults_of bad_of ended_of back_of a b p.more p.passes → CameBack faults_of bad_of ended_of back_of a c (p.more ++ q.more) (p.passes ++ q.passes)
    both then first = record {
      wants = first.wants;
      ended = then.ended ∙ (ap (λ l. l ++ map (λ l. (back_of l).0) q.more) first.ended ∙ (append_assoc (ended_of a.net) (map (λ l. (back_of l).0) p.more) (map (λ l. (back_of l).0) q.more)
          ∙ ap (λ l. ended_of a.net ++ l) (sym (map-append (λ l. (back_of l).0) p.more q.more))));
      bad = (let was = first.bad in let is = then.bad in let sum = total_append (λ l. (back_of l).1) p.more q.more in omega (arith, was, is, sum));
      own = subst (AreServed c.steps (p.passes ++ q.passes)) (sym (map-append back_of p.more q.more))
          (served_append c.steps p.passes q.passes (map back_of p.more) (map back_of q.more) (served_later b.steps c.steps p.passes (map back_of p.more) q.later (λ n m. q.same n (theirs n m)) first.own) then.own);
    }

  -- one link came back, and its pass went into the server's
  pub goes_back : (a b : Moment N L) (l : Snapshot L) (pass : ℕ) → faults_of b.net ≡ faults_of a.net → b.left ≡ a.left → b.begun ≡ a.begun → b.failed ≡ a.failed → b.back ≡ a.back ++ l ∷ []
      → b.joined ≡ a.joined ++ pass ∷ [] → (Member pass a.joined → ⊥) → IsPrefix a.steps b.steps → ((n : ℕ) → Member n a.joined → of number_of n a.steps ≡ of number_of n b.steps)
      → (b.wants ≡ false → (a.wants ≡ false) × (ended_of b.net ≡ ended_of a.net ++ (back_of l).0 ∷ []) × (bad_of b.net ≡ bad_of a.net + (back_of l).1) × IsOver pass b.steps (back_of l) × Carries (of number_of pass b.steps) (back_of l).0.0 (back_of l).0.1)
      → GoesOn faults_of bad_of ended_of back_of a b
  goes_back a b l pass counts left begun failed back joined new later same links = record {
    counts = (let equal = counts in omega (arith, equal));
    number = (let one = left in let two = begun in omega (arith, one, two));
    fails = λ e. inl (sym failed ∙ e);
    more = l ∷ [];
    back = back;
    passes = pass ∷ [];
    kept = λ n m. subst (Member n) (sym joined) (member_left n a.joined (pass ∷ []) m);
    joined = λ n m. subst (Member n) (sym joined) (member_right n a.joined (pass ∷ []) m);
    later = later;
    distinct = ((λ none. none), tt);
    apart = λ n m is. ⊎_elim (λ (e : pass ≡ n). new (subst (λ k. Member k a.joined) (sym e) m)) (λ (none : ⊥). none) is;
    same = same;
    links = λ e. let known = links e in record {
      wants = known.0;
      ended = known.1;
      bad = (let is = known.2 in omega (arith, is));
      own = (known.4, known.3, tt);
    };
  }
