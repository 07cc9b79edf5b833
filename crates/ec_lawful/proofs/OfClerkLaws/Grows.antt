-- What came out of a step stays in front while the step goes on.
use Rattle.std.proofs.Common.{◌≡◌, refl, sym, ap, ◌∙◌, ℕ, Bool, true, false, List, [], ◌∷◌, ◌++◌, append-nil, append_assoc}
use Rattle.std.specs.Prelude.{length, nat_le}
use Rattle.ec_base.specs.declared.ids.Hold.TheVariants.{Free}
use Rattle.ec_cache.specs.Cache as cache
use Rattle.ec_cache.specs.declared.state.Held.{Held}
use Rattle.ec_wire.specs.declared.msg.Msg.TheVariants.{Back}
use Rattle.ec_protocol.specs.Clerk.{Doing, emit, epoch, evict, evict_unpinned, give_back, on_objects, send, send_backs, send_want, session, with_cache, with_clerk, with_update}
use Rattle.ec_protocol.specs.declared.clerk.Out.{Out}
use Rattle.ec_protocol.specs.declared.clerk.Out.TheVariants as out
use Rattle.ec_lawful.specs.OfClerkLaws.Prompt.{IsAmong}
use Rattle.ec_lawful.proofs.OfClerkLaws.Walk.{IsWalk}

abbrev pub Grows : Doing → Doing → Type 0
Grows d e = (more : List Out) × (e.outs ≡ d.outs ++ more)

same : (d e : Doing) → e.outs ≡ d.outs → Grows d e
same d e is = ([], is ∙ sym (append-nil d.outs))

one : (d e : Doing) (o : Out) → e.outs ≡ d.outs ++ o ∷ [] → Grows d e
one d e o is = (o ∷ [], is)

then : (d e f : Doing) → Grows d e → Grows e f → Grows d f
then d e f p q = (p.0 ++ q.0, q.1 ∙ ap (λ l. l ++ q.0) p.1 ∙ append_assoc d.outs p.0 q.0)

-- what is there stays there
pub among : (o : Out) (d e : Doing) → Grows d e → IsAmong o d.outs → IsAmong o e.outs
among o d e p i = (i.0, i.1 ++ p.0, p.1 ∙ ap (λ l. l ++ p.0) i.2 ∙ append_assoc i.0 (o ∷ i.1) p.0)

-- Tokens go back.

each-back : (es : List (ℕ × Held)) (d : Doing) → Grows d (send_backs es d)
each-back [] d = same d d refl
each-back (e ∷ es) d = let f = send (Back (session d) (epoch d) e.0 (e.1).number Free) d in then d f (send_backs es f) (one d f (out.Send (Back (session d) (epoch d) e.0 (e.1).number Free)) refl) (each-back es f)

evicts : (d : Doing) → Grows d (evict d)
evicts d = go (nat_le (length d.clerk.cache.held) d.clerk.cache.capacity)
  where
    go : (z : Bool) → Grows d (elim z as (λ y. Doing) [ true ↦ d | false ↦ evict_unpinned (on_objects d.clerk.log.undurable) d ])
    go true = same d d refl
    go false =
        let f = with_cache (cache.evict (on_objects d.clerk.log.undurable)) d in
        then d f (evict_unpinned (on_objects d.clerk.log.undurable) d) (same d f refl) (each-back (cache.evicted (on_objects d.clerk.log.undurable) d.clerk.cache) f)

pub grows : IsWalk Grows
grows = record {
  same = λ d. same d d refl;
  then = then;
  still = λ d e is s p c. same d e is;
  used = λ xs d. same d (with_cache (cache.all_used xs) d) refl;
  changed = λ u d. same d (with_clerk (with_update u) d) refl;
  sends = λ m d i. one d (emit (out.Send m) d) (out.Send m) refl;
  answers = λ n a op d. one d (emit (out.Answer n a op) d) (out.Answer n a op) refl;
  wants = λ x m d h. one d (send_want x m d) _ refl;
  gives = λ r d. one d (give_back r d) _ refl;
  evicts = evicts;
}
