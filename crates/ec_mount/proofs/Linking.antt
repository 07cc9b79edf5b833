-- Links that came back while the calls went on.
use Rattle.std.specs.Prelude.{OnOk}
use Rattle.std.proofs.Common.{◌≡◌, ◌+◌, ◌<◌, ◌≤◌, ◌⊎◌, ℕ, zero, suc, Result, Ok, Err, Bool, true, false, List, [], ◌∷◌, ◌++◌, Option, Some, None, sym, refl, ap, ◌∙◌, subst, inl, inr, ⊎_elim, arith, append_assoc, append-nil}
use mathlib.Core.List.{IsPrefix}
use Rattle.ec_lock.specs.PassViews.{front, numbers, IsPassOf}
use Rattle.ec_lock.specs.Steps.{Member, of}
use Rattle.ec_lock.specs.declared.types.Pass.{Pass}
use Rattle.ec_lock.specs.declared.types.TracedLock.{TracedLock}
use Rattle.ec_link.specs.Links.{Heard, added}
use Rattle.ec_link.specs.LinkAnswers.{failed}
use Rattle.ec_link.specs.Nets.{Ended}
use Rattle.ec_link.specs.NetAnswers.{is_bad, IsEmpty}
use Rattle.ec_outs.proofs.Told.{added-added}
use Rattle.ec_clerknode.specs.declared.state.Node.{Node}
use Rattle.ec_clerknode.specs.declared.step.Step.{Step}
use Rattle.ec_clerknode.specs.Parts.{is_linked, onto, parts}
use Rattle.ec_clerknode.specs.PresentLink.{has_link, part, IsBase, Over, Counted, LinksBy}
use Rattle.ec_clerknode.specs.Run.{heard_of, heard_by, said_in, said_by}
use Rattle.ec_clerknode.specs.RunEnds.{net_of, nets}
use Rattle.ec_clerknode.specs.Turns.{number_of}
use Rattle.ec_clerknode.specs.PassTurns.{Turned, Relinked}
use Rattle.ec_clerknode.proofs.Parts.{went_on, some_parts, parts_more, parts_new, part_new, has_two, has_parts}
use Rattle.ec_mount.specs.Run.{NetSeen, AreTold}
use Rattle.ec_mount.specs.Linking.{AreToldFrom, nets_in, Linked, Handed, HandedBy, LinkedMore, HasLinked}
use Rattle.ec_base.specs.Lists.{Tells}
use Rattle.ec_base.proofs.Lists.{prefix_self, prefix_trans}
use Rattle.ec_lock.proofs.Numbers.{member_right}

-- A pass had turns, or none.

module _ {L : Type 0} (lock : TracedLock (Node L) Step) where
  pub linked_self : (pass : Pass (Node L) Step) → IsPassOf lock pass → Linked lock pass pass
  linked_self pass is = record { is_pass = is; same = (refl, refl); later = prefix_self (front pass) }

  pub linked_turned : (old new : Pass (Node L) Step) → Turned lock old new → Linked lock old new
  linked_turned old new t = record { is_pass = t.is_pass; same = (t.stays.0, t.stays.1); later = t.goes.1 }

  pub linked_both : (old mid new : Pass (Node L) Step) → Linked lock old mid → Linked lock mid new → Linked lock old new
  linked_both old mid new p q = record { is_pass = q.is_pass; same = (q.same.0 ∙ p.same.0, q.same.1 ∙ p.same.1); later = prefix_trans (front old) (front mid) (front new) p.later q.later }

-- What links tell, one after another.

pub told_from : {A : Type 0} (o p : Option (List A)) (xs : List A) → IsEmpty o → p ≡ added o xs → Tells p xs
told_from None p xs e is = subst (λ q. Tells q xs) (sym is) tt
told_from (Some ys) p xs e is = subst (λ q. Tells q xs) (sym is) (ap (λ l. l ++ xs) e)

told_next : (start : List (List ℕ)) (links : List Ended) (over : List (List Step)) (p : List Step) (e : Ended) → AreTold start links over → Tells e.0 (heard_by p) → (links ≡ [] → Tells e.1 (start ++ said_by p)) → Tells e.1 (said_by p)
    → AreTold start (links ++ e ∷ []) (over ++ p ∷ [])
told_next start [] [] p e a heard first said = (heard, first refl, tt)
told_next start (l ∷ ls) (o ∷ os) p e a heard first said = (a.0, a.1, told_next [] ls os p e a.2 heard (λ none. said) said)
told_next start [] (o ∷ os) p e a heard first said = absurd a
told_next start (l ∷ ls) [] p e a heard first said = absurd a

two_of : (o : List Step) (os : List (List Step)) (p : List Step) → has_two (o ∷ (os ++ p ∷ [])) ≡ true
two_of o [] p = refl
two_of o (q ∷ qs) p = refl

-- one link more, which tells this of the last part
told_push : (g : Option (List Heard)) (t : Option (List (List ℕ))) (links : List Ended) (over : List (List Step)) (p : List Step) (e : Ended) (b : Bool) → b ≡ has_two (over ++ p ∷ []) → AreToldFrom g t [] links over
    → ((base : Option (List Heard)) × IsBase b g base × (e.0 ≡ added base (heard_by p))) → ((base : Option (List (List ℕ))) × IsBase b t base × (e.1 ≡ added base (said_by p))) → AreToldFrom g t [] (links ++ e ∷ []) (over ++ p ∷ [])
told_push g t [] [] p e b is a heard said =
    let from : heard.0 ≡ g = subst (λ b. IsBase b g heard.0) is heard.1 in
    let to : said.0 ≡ t = subst (λ b. IsBase b t said.0) is said.1 in
    (heard.2 ∙ ap (λ o. added o (heard_by p)) from, said.2 ∙ ap (λ o. added o (said_by p)) to, tt)
told_push g t (l ∷ ls) (o ∷ os) p e b is a heard said =
    let two : b ≡ true = is ∙ two_of o os p in
    let from : IsEmpty heard.0 = subst (λ b. IsBase b g heard.0) two heard.1 in
    let to : IsEmpty said.0 = subst (λ b. IsBase b t said.0) two said.1 in
    let tells = told_from said.0 e.1 (said_by p) to said.2 in
    (a.0, a.1, told_next [] ls os p e a.2 (told_from heard.0 e.0 (heard_by p) from heard.2) (λ none. tells) tells)
told_push g t [] (o ∷ os) p e b is a heard said = absurd a
told_push g t (l ∷ ls) [] p e b is a heard said = absurd a

-- the first link had told nothing
pub told_all : (g : Option (List Heard)) (t : Option (List (List ℕ))) (start : List (List ℕ)) (links : List Ended) (over : List (List Step)) → IsEmpty g → IsEmpty t → AreToldFrom g t start links over → AreTold start links over
told_all g t start [] [] none_given none_got a = tt
told_all g t start (l ∷ ls) (o ∷ os) none_given none_got a = (told_from g l.0 (heard_by o) none_given a.0, told_from t l.1 (start ++ said_by o) none_got a.1, a.2)
told_all g t start [] (o ∷ os) none_given none_got a = absurd a
told_all g t start (l ∷ ls) [] none_given none_got a = absurd a

-- the first link got these messages before
pub told_behind : (g h : Option (List Heard)) (t s : Option (List (List ℕ))) (start : List (List ℕ)) (links : List Ended) (over : List (List Step)) → h ≡ g → s ≡ added t start → AreToldFrom h s [] links over → AreToldFrom g t start links over
told_behind g h t s start [] [] same sent a = tt
told_behind g h t s start (l ∷ ls) (o ∷ os) same sent a =
    (a.0 ∙ ap (λ x. added x (heard_by o)) same, a.1 ∙ (ap (λ x. added x (said_by o)) sent ∙ added-added t start (said_by o)), a.2)
told_behind g h t s start [] (o ∷ os) same sent a = absurd a
told_behind g h t s start (l ∷ ls) [] same sent a = absurd a

-- Marks.

nets_onto : (x : Step) (b : Bool) (p : List Step) (ps : List (List Step)) → nets_in (onto x b (p ∷ ps)) ≡ (net_of x.deed + failed x.end) + nets_in (p ∷ ps)
nets_onto x true p ps = omega arith
nets_onto x false p ps = omega arith

pub nets_parts : (xs : List Step) → nets xs ≡ nets_in (parts xs)
nets_parts [] = refl
nets_parts (x ∷ xs) =
    let r = some_parts xs in
    let b = is_linked x.deed in
    omega (arith, nets_parts xs, ap nets_in r.2, nets_onto x b r.0 r.1, ap (λ l. nets_in (onto x b l)) r.2)

pub nets_last : (over : List (List Step)) (p : List Step) → nets_in (over ++ p ∷ []) ≡ nets_in over + nets p
nets_last [] p = omega arith
nets_last (o ∷ os) p = omega (arith, nets_last os p)

pub some_of : (m n : ℕ) → 0 < m + n → (0 < m) ⊎ (0 < n)
some_of zero n l = inr (omega (arith, l))
some_of (suc m) n l = inl (omega arith)

pub bad_of : (faults closes : ℕ) → 0 < faults + closes → is_bad faults closes ≡ 1
bad_of faults closes h = grind (arith, h)

-- A link came back, and one more mark counts.
rises : (start before after faults closes over part : ℕ) → after ≡ before + is_bad faults closes → start ≤ before → (0 < over → start < before) → part ≤ faults + closes → 0 < over + part → start < after
rises start before after faults closes over part e low rose few some =
    ⊎_elim (λ (m : 0 < over). let r = rose m in omega (arith, e, r)) (λ (n : 0 < part). omega (arith, e, low, bad_of faults closes (omega (arith, n, few)))) (some_of over part some)

module _ {L : Type 0} (counts : L → ℕ) (given : L → Option (List Heard)) (got : L → Option (List (List ℕ))) (first : Node L) (n : ℕ) where
  -- behind a front that goes on without an exchange
  module _ (start before : NetSeen) (front zs : List Step) (h : HandedBy counts given got first n start before front) (later : IsPrefix front zs) (own : of number_of n front ≡ of number_of n zs) where
    pub handed_later : (after : NetSeen) → after.bad ≡ before.bad → after.ended ≡ before.ended → HandedBy counts given got first n start after zs
    handed_later after bad ended =
        let k = h.handed in
        let low = k.low in
        record {
          steps = h.steps;
          later = prefix_trans h.steps front zs h.later later;
          own = h.own ∙ own;
          handed = record { over = k.over; whole = k.whole; links = k.links; ended = ended ∙ k.ended; told = k.told; low = omega (arith, bad); rose = λ some. let r = k.rose some in omega (arith, bad) };
        }

    -- the parts that have ended are these still
    pub whole_now : LinksBy (Some n) zs → parts zs ≡ h.handed.over ++ part zs ∷ []
    whole_now by =
        let p = prefix_trans h.steps front zs h.later later in
        subst (λ l. parts l ≡ h.handed.over ++ part l ∷ []) p.1 (parts_more h.steps p.0 h.handed.over (went_on n h.steps zs p (h.own ∙ own) by) h.handed.whole)

    -- with one link more, which tells what the last part heard and said
    pub told_now : LinksBy (Some n) zs → (link : L) → Over (λ s. heard_of s.deed) (given first.link) zs (given link) → Over said_in (got first.link) zs (got link)
        → AreToldFrom (given first.link) (got first.link) [] (h.handed.links ++ (given link, got link) ∷ []) (h.handed.over ++ part zs ∷ [])
    told_now by link heard said =
        told_push (given first.link) (got first.link) h.handed.links h.handed.over (part zs) (given link, got link) (has_link zs) (has_parts zs ∙ ap has_two (whole_now by)) h.handed.told heard said

  -- A link was exchanged, and the one before came back.
  module _ (start before after : NetSeen) (front new : List Step) (link : L) (faults closes : ℕ) (h : HandedBy counts given got first n start before front) (r : Relinked counts given got first n front new link)
      (are : counts link ≡ faults + closes) (bad : after.bad ≡ before.bad + is_bad faults closes) (ended : after.ended ≡ before.ended ++ (given link, got link) ∷ []) where
    links_by : LinksBy (Some n) r.0
    links_by = subst (λ o. LinksBy o r.0) r.7 r.8

    links_now : is_linked r.1.deed ≡ true
    links_now = ap is_linked r.5

    whole_then : parts r.0 ≡ h.handed.over ++ part r.0 ∷ []
    whole_then = whole_now start before front r.0 h r.3 r.4 links_by

    pub handed_more : HandedBy counts given got first n start after new
    handed_more =
        let k = h.handed in
        let xs = r.0 in
        let s = r.1 in
        let told = told_now start before front xs h r.3 r.4 links_by link r.9.2 r.9.1 in
        let few = r.9.0 in
        let low = k.low in
        record {
          steps = new;
          later = prefix_self new;
          own = refl;
          handed = record {
            over = k.over ++ part xs ∷ [];
            whole = subst (λ l. parts l ≡ (k.over ++ part xs ∷ []) ++ part l ∷ []) r.2 (parts_new xs s links_now ∙ (ap (λ l. l ++ (s ∷ []) ∷ []) whole_then ∙ ap (λ q. (k.over ++ part xs ∷ []) ++ q ∷ []) (sym (part_new xs s links_now))));
            links = k.links ++ (given link, got link) ∷ [];
            ended = ended ∙ (ap (λ l. l ++ (given link, got link) ∷ []) k.ended ∙ append_assoc start.ended k.links ((given link, got link) ∷ []));
            told = told;
            low = omega (arith, bad);
            rose = λ some. rises start.bad before.bad after.bad faults closes (nets_in k.over) (nets (part xs)) bad low k.rose (omega (arith, few, are)) (omega (arith, some, nets_last k.over (part xs)));
          };
        }

-- One after another, each with its own pass.

module _ {L : Type 0} (counts : L → ℕ) (given : L → Option (List Heard)) (got : L → Option (List (List ℕ))) (first : Node L) where
  handed_of : (n : ℕ) (start before after : NetSeen) (front zs : List Step) → HandedBy counts given got first n start before front → IsPrefix front zs → of number_of n front ≡ of number_of n zs → after.bad ≡ before.bad → after.ended ≡ before.ended → HandedBy counts given got first n start after zs
  handed_of n start before after front zs h later own bad ended = handed_later counts given got first n start before front zs h later own after bad ended

  -- the net is as before, but for its faults
  pub more_still : (old new : Pass (Node L) Step) (a b c : NetSeen) → c.bad ≡ b.bad → c.ended ≡ b.ended → LinkedMore counts given got first old new a b → LinkedMore counts given got first old new a c
  more_still old new a b c bad ended p start h = handed_of old.number start b c (front new) (front new) (p start h) (prefix_self (front new)) refl bad ended

  pub more_both : (old mid new : Pass (Node L) Step) (a b c : NetSeen) → mid.number ≡ old.number → LinkedMore counts given got first old mid a b → LinkedMore counts given got first mid new b c → LinkedMore counts given got first old new a c
  more_both old mid new a b c same p q start h =
      subst (λ n. HandedBy counts given got first n start c (front new)) same (q start (subst (λ n. HandedBy counts given got first n start b (front mid)) (sym same) (p start h)))

  -- a turn without an exchange
  pub more_turned : (lock : TracedLock (Node L) Step) (old new : Pass (Node L) Step) (a : NetSeen) → Turned lock old new → of number_of old.number (front new) ≡ of number_of old.number (front old) → LinkedMore counts given got first old new a a
  more_turned lock old new a t own start h = handed_of old.number start a a (front old) (front new) h t.goes.1 (sym own) refl refl

  -- a turn before and one behind, which exchange nothing
  pub more_around : {A F : Type 0} (lock : TracedLock (Node L) Step) (old one two new : Pass (Node L) Step) (a b : NetSeen) (r : Result A F) → Turned lock old one → of number_of old.number (front one) ≡ of number_of old.number (front old)
      → Linked lock one two → OnOk r (LinkedMore counts given got first one two a b) → Turned lock two new → of number_of two.number (front new) ≡ of number_of two.number (front two) → OnOk r (LinkedMore counts given got first old new a b)
  more_around lock old one two new a b (Ok x) t own l m u own_too =
      more_both old one new a a b t.stays.0 (more_turned lock old one a t own) (more_both one two new a b b l.same.0 m (more_turned lock two new b u own_too))
  more_around lock old one two new a b (Err f) t own l m u own_too = tt

  -- a pass that has made no step
  handed_none : (n : ℕ) (net : NetSeen) (steps : List Step) → of number_of n steps ≡ [] → HandedBy counts given got first n net net steps
  handed_none n net steps none = record {
    steps = [];
    later = (steps, refl);
    own = sym none;
    handed = record { over = []; whole = refl; links = []; ended = sym (append-nil net.ended); told = tt; low = omega arith; rose = λ some. omega (arith, some) };
  }

  -- who linked again was drawn from a pass, and came back to it
  pub has_linked : (lock : TracedLock (Node L) Step) (own drawn back called joined : Pass (Node L) Step) (before after : NetSeen) → drawn.number ≡ 1 → front drawn ≡ front own → of number_of drawn.number (front own) ≡ [] → Linked lock drawn back → LinkedMore counts given got first drawn back before after
      → IsPrefix (front back) (front joined) → ((n : ℕ) → Member n (numbers back) → of number_of n (front back) ≡ of number_of n (front joined)) → numbers joined ≡ numbers called ++ numbers back → HasLinked counts given got first joined before after
  has_linked lock own drawn back called joined before after one same none l more later others both =
      let mine : Member 1 (numbers back) = subst (λ n. Member n (numbers back)) (l.same.0 ∙ one) l.is_pass.1 in
      let handed = more before (handed_none drawn.number before (front drawn) (ap (of number_of drawn.number) same ∙ none)) in
      record {
        within = subst (Member 1) (sym both) (member_right 1 (numbers called) (numbers back) mine);
        handed = handed_of 1 before after after (front back) (front joined) (subst (λ n. HandedBy counts given got first n before after (front back)) one handed) later (others 1 mine) refl refl;
      }
