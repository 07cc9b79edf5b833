-- A mounted clerk's run begins with the greeting of its start.
use Rattle.std.proofs.Common.{◌≡◌, ◌⊎◌, refl, sym, ap, subst, inl, inr, ◌∙◌, ℕ, zero, suc, Bool, true, false, List, [], ◌∷◌, ◌++◌, map, take, Option, Some, None}
use Rattle.std.specs.Prelude.{nat_lt}
use Rattle.ec_base.specs.Limits.{last_counter}
use Rattle.ec_base.specs.declared.counter.Counter.{Counter}
use Rattle.ec_base.specs.declared.counter.Counter.TheVariants as counter
use Rattle.ec_wire.specs.declared.msg.Msg.{Msg}
use Rattle.ec_wire.specs.declared.msg.Msg.TheVariants.{Hello}
use Rattle.ec_protocol.specs.Clerk.{Doing, doing, hello, new_clerk, spend, start}
use Rattle.ec_protocol.specs.declared.clerk.Out.{Out}
use Rattle.ec_protocol.specs.declared.clerk.Out.TheVariants as out
use Rattle.ec_link.specs.Nets.{Ended}
use Rattle.ec_wire.specs.Codes.{msg_code}
use Rattle.ec_clerknode.specs.declared.step.Step.{Step}
use Rattle.ec_clerknode.specs.Parts.{parts}
use Rattle.ec_clerknode.specs.Run.{said_by}
use Rattle.ec_clerknode.proofs.Parts.{some_parts}
use Rattle.ec_mount.specs.Mount.{Mounts, Outside}
use Rattle.ec_mount.specs.Run.{NetSeen, Ran, AreTold, AreUnsent}
use Rattle.ec_mount.specs.declared.status.Status.{Status}
use Rattle.ec_mount.specs.declared.status.Status.TheVariants as status
use Rattle.ec_echo.specs.Greeting.{GotAtMost, GotGreeting, Greets, IsFirstTold, greeting_of}
use Rattle.ec_base.specs.Lists.{Tells}

-- a start that spends no counter greets, and no more
starts-so : (id boot : ℕ) → (start id boot).spent ≡ None → (start id boot).outs ≡ out.Send (Hello id (record { boot = boot; round = 0 })) ∷ []
starts-so id boot q = go (nat_lt last_counter boot) q
  where
    d : Doing
    d = doing (new_clerk id boot)

    go : (b : Bool) → (elim b as (λ z. Doing) [ true ↦ spend counter.Boot d | false ↦ hello d ]).spent ≡ None
        → (elim b as (λ z. Doing) [ true ↦ spend counter.Boot d | false ↦ hello d ]).outs ≡ out.Send (Hello id (record { boot = boot; round = 0 })) ∷ []
    go true s = absurd cc
    go false s = refl

first-told : (body : List ℕ) (rest : List (List ℕ)) (got : Option (List (List ℕ))) → Tells got (body ∷ rest) → IsFirstTold body got
first-told body rest None told = tt
first-told body rest (Some bodies) told = (rest, told)

-- the first link got the body first
first-link : (body : List ℕ) (links : List Ended) (p : List Step) (ps : List (List Step)) → AreTold (body ∷ []) links (p ∷ ps) → (e : Ended) × (more : List Ended) × (links ≡ e ∷ more) × IsFirstTold body e.1
first-link body [] p ps a = absurd a
first-link body (e ∷ es) p ps a = (e, es, refl, first-told body (said_by p) e.1 a.1)

front-told : (m : Msg) (n : ℕ) (got : Option (List (List ℕ))) → Tells got (map (λ (m : Msg). msg_code.spell m) (take n (m ∷ []))) → Tells got [] ⊎ Tells got (msg_code.spell m ∷ [])
front-told m zero got told = inl told
front-told m (suc zero) got told = inr told
front-told m (suc (suc n)) got told = inr told

-- links that failed before they took the message got no more
at-most : (m : Msg) (links : List Ended) → AreUnsent (out.Send m ∷ []) links → GotAtMost (msg_code.spell m) links
at-most m [] a = tt
at-most m (e ∷ es) a = (a.0, front-told m a.1.0 e.1 a.1.1, at-most m es a.2)

ran-greets : (id boot : ℕ) (before after : NetSeen) (steps : List Step) → Ran id boot before after steps → GotGreeting id boot before after
ran-greets id boot before after steps r = record {
  failed = r.unsent;
  few = at-most (Hello id (record { boot = boot; round = 0 })) r.unsent (rw greets at r.mute);
  bad = r.bad;
  given = one.0.0;
  got = one.0.1;
  more = one.1;
  ended = r.ended ∙ ap (λ l. before.ended ++ (r.unsent ++ l)) one.2;
  first = one.3;
}
  where
    some : (p : List Step) × (ps : List (List Step)) × (parts steps ≡ p ∷ ps)
    some = some_parts steps

    greets : r.outs ≡ out.Send (Hello id (record { boot = boot; round = 0 })) ∷ []
    greets = sym (ap (λ d. d.outs) r.starts) ∙ starts-so id boot (ap (λ d. d.spent) r.starts)

    one : (e : Ended) × (more : List Ended) × (r.links ≡ e ∷ more) × IsFirstTold (greeting_of id boot) e.1
    one = first-link (greeting_of id boot) r.links some.0 some.1
        (rw some.2 at (rw greets at r.told))

pub mounts-greet : (id boot : ℕ) (end : Status) (w : Outside) → Mounts id boot end w → Greets id boot end w.net w.net_after
mounts-greet id boot status.Done w m = ran-greets id boot w.net w.net_after _ (m.1).ran
mounts-greet id boot status.OldBoot w m = ran-greets id boot w.net w.net_after _ (m.1.1).ran
mounts-greet id boot status.PeerFault w m = ran-greets id boot w.net w.net_after _ (m.1.3.2.2).ran
mounts-greet id boot _ w m = tt
