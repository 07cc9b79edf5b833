-- Links that came back before one took the greeting.
use Rattle.std.proofs.Common.{◌≡◌, ◌+◌, ◌<◌, ◌≤◌, ℕ, Err, List, [], ◌∷◌, ◌++◌, length, map, take, Option, sym, ap, ◌∙◌, subst, arith, append_assoc, append-nil}
use Rattle.std.proofs.lemmas.List.{length-append}
use Rattle.ec_protocol.specs.declared.clerk.Out.{Out}
use Rattle.ec_link.specs.Links.{Heard, added}
use Rattle.ec_link.specs.Nets.{Ended}
use Rattle.ec_link.specs.NetAnswers.{is_bad, faulted, IsEmpty}
use Rattle.ec_link.specs.declared.net.NetFault.{NetFault}
use Rattle.ec_link.specs.declared.net.NetFault.TheVariants as fault
use Rattle.ec_outs.specs.Outs.{encoded, sends}
use Rattle.ec_outs.proofs.Told.{added-nil}
use Rattle.ec_base.proofs.Lists.{all-taken}
use Rattle.ec_mount.specs.Run.{NetSeen, AreUnsent, CameUnsent, LostUnsent}
use Rattle.ec_mount.specs.Work.{Took}
use Rattle.ec_mount.proofs.Linking.{told_from, bad_of}

-- all messages were sent
pub sent_all : (n : ℕ) (old new : Option (List (List ℕ))) (outs : List Out) → new ≡ added old (map encoded (take n (sends outs))) → n ≡ length (sends outs) → new ≡ added old (map encoded (sends outs))
sent_all n old new outs e is = e ∙ ap (λ l. added old (map encoded l)) (ap (λ k. take k (sends outs)) is ∙ all-taken (sends outs))

pub got_same : (n : ℕ) (old bell new : Option (List (List ℕ))) (outs : List Out) → bell ≡ old → new ≡ added bell (map encoded (take n (sends outs))) → new ≡ added old (map encoded (take n (sends outs)))
got_same n old bell new outs was e = subst (λ o. new ≡ added o (map encoded (take n (sends outs)))) was e

-- a new link took all of them
pub took_all : (outs : List Out) (old given : Option (List Heard)) (base got : Option (List (List ℕ))) → IsEmpty old → IsEmpty base → given ≡ old → got ≡ added base (map encoded (sends outs)) → Took outs given got
took_all outs old given base got none_given none_got same e = (base, subst (λ (o : Option (List Heard)). IsEmpty o) (sym same) none_given, none_got, e)

unsent_more : (outs : List Out) (xs ys : List Ended) → AreUnsent outs xs → AreUnsent outs ys → AreUnsent outs (xs ++ ys)
unsent_more outs [] ys a b = b
unsent_more outs (x ∷ xs) ys a b = (a.0, a.1, unsent_more outs xs ys a.2 b)

-- a link that has failed is bad
pub has_failed : (A : Type 0) (f : NetFault) (before now : ℕ) → f ≡ fault.Failed → faulted {A = A} (Err f) + before ≤ now → 0 < now
has_failed A f before now is few = let more = subst (λ x. faulted {A = A} (Err x) + before ≤ now) is few in omega (arith, more)

module _ (outs : List Out) where
  -- no link came back
  pub came_none : (before after : NetSeen) → after.bad ≡ before.bad → after.ended ≡ before.ended → CameUnsent outs before after
  came_none before after bad ended = record { links = []; unsent = tt; ended = ended ∙ sym (append-nil before.ended); bad = omega (arith, bad) }

  -- one came back, which had failed
  pub lost_one : (before after : NetSeen) (faults closes n : ℕ) (old given : Option (List Heard)) (base got : Option (List (List ℕ))) → IsEmpty old → IsEmpty base → given ≡ old → got ≡ added base (map encoded (take n (sends outs))) → 0 < faults + closes
      → after.bad ≡ before.bad + is_bad faults closes → after.ended ≡ before.ended ++ (given, got) ∷ [] → LostUnsent outs before after
  lost_one before after faults closes n old given base got none_given none_got same e some bad ended = (
    record {
      links = (given, got) ∷ [];
      unsent = (told_from old given [] none_given (same ∙ sym (added-nil old)), (n, told_from base got (map encoded (take n (sends outs))) none_got e), tt);
      ended = ended;
      bad = omega (arith, bad, bad_of faults closes some);
    },
    omega arith,
  )

  -- a call more, by which none came back
  pub came_called : (a b c : NetSeen) → CameUnsent outs a b → c.bad ≡ b.bad → c.ended ≡ b.ended → CameUnsent outs a c
  came_called a b c p bad ended =
      let few = p.bad in
      record { links = p.links; unsent = p.unsent; ended = ended ∙ p.ended; bad = omega (arith, few, bad) }

  pub lost_called : (a b c : NetSeen) → LostUnsent outs a b → c.bad ≡ b.bad → c.ended ≡ b.ended → LostUnsent outs a c
  unfolding came_called
  lost_called a b c l bad ended = (came_called a b c l.0 bad ended, l.1)

  -- more came back
  pub came_more : (a b c : NetSeen) → CameUnsent outs a b → CameUnsent outs b c → CameUnsent outs a c
  came_more a b c p q =
      let few = p.bad in
      let more = q.bad in
      record {
        links = p.links ++ q.links;
        unsent = unsent_more outs p.links q.links p.unsent q.unsent;
        ended = q.ended ∙ (ap (λ l. l ++ q.links) p.ended ∙ append_assoc a.ended p.links q.links);
        bad = omega (arith, few, more, length-append p.links q.links);
      }

  pub lost_more : (a b c : NetSeen) → LostUnsent outs a b → CameUnsent outs b c → LostUnsent outs a c
  unfolding came_more
  lost_more a b c l q =
      let some = l.1 in
      (came_more a b c l.0 q, omega (arith, some, length-append (l.0).links q.links))
