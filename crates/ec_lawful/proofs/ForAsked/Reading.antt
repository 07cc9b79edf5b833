-- What a world's count of ends reads: its lines, what is to be shown, who runs, the boots and the slots. And a line, a record and a clerk's step.
use Rattle.std.proofs.Common.{◌≡◌, refl, sym, ap, ◌∙◌, arith, ◌≤◌, ◌+◌, ◌-◌, ℕ, Bool, true, false, ◌==◌, ◌||◌, cond, length, List, [], ◌∷◌, ◌++◌, Option, Some, None}
use Rattle.std.specs.Prelude.{is_some}
use Rattle.std.proofs.lemmas.List.{length-append}
use Rattle.std.proofs.lemmas.List.Elements.{filter-append}
use Rattle.ec_base.specs.Tables.{at, at_or, or_else, put}
use Rattle.ec_base.specs.declared.counter.Counter.{Counter}
use Rattle.ec_plain.specs.declared.call.Call.{Call}
use Rattle.ec_history.specs.Placing.{watch}
use Rattle.ec_history.specs.declared.shown.Shown.{Shown}
use Rattle.ec_history.specs.declared.shown.Shown.TheVariants as show
use Rattle.ec_protocol.specs.Clerk.{Doing}
use Rattle.ec_protocol.specs.World as world
use Rattle.ec_protocol.specs.World.{Moving, boot, moving}
use Rattle.ec_protocol.specs.declared.clerk.Clerk.{Clerk}
use Rattle.ec_protocol.specs.declared.clerk.Out.{Out}
use Rattle.ec_protocol.specs.declared.clerk.Out.TheVariants as out
use Rattle.ec_protocol.specs.declared.world.Noted.{Noted}
use Rattle.ec_protocol.specs.declared.world.Noted.TheVariants as noted_of
use Rattle.ec_protocol.specs.declared.world.World.{World}
use Rattle.ec_protocol.specs.declared.world.WorldFault.TheVariants as fault
use Rattle.ec_coherence.specs.Steps.{call_of, less_call, out_lines}
use Rattle.ec_coherence.proofs.ForServer.Tables.{at-put}
use Rattle.ec_lawful.specs.Headline.{ends}
use Rattle.ec_lawful.proofs.ForWhole.Outs.{Calls, Came, came-out}
use Rattle.ec_lawful.specs.Asked.{EndsAsked, ended_by, passed, seat, spare, to_end, top}
use Rattle.ec_base.specs.Bools.{one_if}
use Rattle.ec_base.proofs.Options.{none_some}
use Rattle.ec_base.proofs.Numbers.{equal, plus_none}

-- Lines.

pub ended-more : (c : ℕ) (xs ys : List Shown) → ended_by c (xs ++ ys) ≡ ended_by c xs + ended_by c ys
ended-more c xs ys = ap length (filter-append (ends c) xs ys) ∙ length-append _ _

one-line : (c : ℕ) (s : Shown) → ended_by c (s ∷ []) ≡ one_if (ends c s)
one-line c s = go (ends c s)
  where
    go : (b : Bool) → length (cond b (s ∷ []) []) ≡ one_if b
    go true = refl
    go false = refl

pub ended-line : (c : ℕ) (xs : List Shown) (s : Shown) → ended_by c (xs ++ s ∷ []) ≡ ended_by c xs + one_if (ends c s)
ended-line c xs s = ended-more c xs (s ∷ []) ∙ ap (λ n. ended_by c xs + n) (one-line c s)

-- what comes out of a clerk ends nothing
none-out : (c e : ℕ) (os : List Out) (calls : Calls) → ended_by e (out_lines c os calls) ≡ 0
none-out c e [] calls = refl
none-out c e (out.Send m ∷ os) calls = none-out c e os calls
none-out c e (out.Told ns ∷ os) calls = none-out c e os calls
none-out c e (out.OldBoot a ∷ os) calls = none-out c e os calls
none-out c e (out.Answer n a op ∷ os) calls = go (call_of c n calls) (λ x. none-out c e os x)
  where
    go : (o : Option (ℕ × Call)) → ((x : Calls) → ended_by e (out_lines c os x) ≡ 0) → ended_by e (elim o as (λ z. List Shown) [ None ↦ out_lines c os calls | Some l ↦ show.Answered l.0 c l.1 a op ∷ out_lines c os (less_call c n calls) ]) ≡ 0
    go None f = f calls
    go (Some l) f = f (less_call c n calls)

-- Worlds that read alike.

pub record Alike (w v : World) : Type 0 where
  pub ended : (c : ℕ) → ended_by c v.shown ≡ ended_by c w.shown
  pub unshown : v.unshown ≡ w.unshown
  pub tops : (c : ℕ) → top c v ≡ top c w
  pub seats : (c : ℕ) → seat c v.durable ≡ seat c w.durable

sum-same : (a b c x y z n : ℕ) → a ≡ x → b ≡ y → c ≡ z → x + y + z ≤ n → a + b + c ≤ n
sum-same a b c x y z n p q r l = omega (arith, p, q, r, l)

pub alike-asks : (first asked : ℕ → ℕ) (w v : World) → Alike w v → EndsAsked first asked w → EndsAsked first asked v
alike-asks first asked w v s a = record {
  within = λ c. sum-same (ended_by c v.shown) (to_end c v.unshown) (spare (first c) c v) (ended_by c w.shown) (to_end c w.unshown) (spare (first c) c w) (asked c) (s.ended c) (ap (to_end c) s.unshown)
      (ap (λ n. n - passed (first c) (seat c v.durable)) (s.tops c) ∙ ap (λ n. top c w - passed (first c) n) (s.seats c)) (a.within c);
}

pub same-tops : (w v : World) → v.clerks ≡ w.clerks → v.boots ≡ w.boots → (c : ℕ) → top c v ≡ top c w
same-tops w v p q c = ap (λ x. elim (is_some (at c x)) as (λ z. ℕ) [ true ↦ boot c v | false ↦ boot c v + 1 ]) p ∙ ap (λ x. elim (is_some (at c w.clerks)) as (λ z. ℕ) [ true ↦ at_or 0 c x | false ↦ at_or 0 c x + 1 ]) q

pub alike : (w v : World) → v.shown ≡ w.shown → v.unshown ≡ w.unshown → v.clerks ≡ w.clerks → v.boots ≡ w.boots → v.durable ≡ w.durable → Alike w v
alike w v p q r s d = record { ended = λ c. ap (ended_by c) p; unshown = q; tops = same-tops w v r s; seats = λ c. ap (seat c) d }

-- What a record is to show is shown.
pub record Notes (m n : Moving) (o : Option Noted) : Type 0 where
  pub ended : (c : ℕ) → ended_by c n.world.shown ≡ ended_by c m.world.shown + to_end c o
  pub durable : n.world.durable ≡ m.world.durable
  pub unshown : n.world.unshown ≡ m.world.unshown
  pub clerks : n.world.clerks ≡ m.world.clerks
  pub boots : n.world.boots ≡ m.world.boots

pub notes : (o : Option Noted) (m : Moving) → Notes m (world.show_noted o m) o
notes None m = record { ended = λ c. plus_none (ended_by c m.world.shown); durable = refl; unshown = refl; clerks = refl; boots = refl }
notes (Some (noted_of.Durable d ns)) m = record { ended = λ c. ended-line c m.world.shown (show.Durable d ns); durable = refl; unshown = refl; clerks = refl; boots = refl }
notes (Some (noted_of.Ended d b)) m = record { ended = λ c. ended-line c m.world.shown (world.show_ended d b m.world) ∙ ap (λ n. ended_by c m.world.shown + n) (its c); durable = refl; unshown = refl; clerks = refl; boots = refl }
  where
    its : (c : ℕ) → one_if (ends c (world.show_ended d b m.world)) ≡ one_if (c == d)
    its c = go (is_some (watch d m.world.shown).open_start || world.is_running d b m.world)
      where
        go : (z : Bool) → one_if (ends c (elim z as (λ y. Shown) [ true ↦ show.Ended d ((watch d m.world.shown).undurable) | false ↦ show.Unseen d ])) ≡ one_if (c == d)
        go true = refl
        go false = refl

-- A clerk's step.

-- what was shown of its call, where it runs behind it
pub record Begins (w : World) (m : Moving) (c : ℕ) : Type 0 where
  pub ended : (e : ℕ) → ended_by e m.world.shown ≡ ended_by e w.shown
  pub unshown : m.world.unshown ≡ w.unshown
  pub durable : m.world.durable ≡ w.durable
  pub tops : (k : Clerk) (e : ℕ) → top e (record (m.world) { clerks = put c k m.world.clerks }) ≡ top e w

pub done-alike : (w : World) (m : Moving) (c : ℕ) (d : Doing) → Begins w m c → (world.clerk_does c d m).fault ≡ None → Alike w (world.clerk_does c d m).world
done-alike w m c d b f = go d.spent f
  where
    first : Moving
    first = world.with_world (λ x. record x { clerks = put c d.clerk x.clerks }) m

    r : Came c d.outs first (world.come_out c d.outs first)
    r = came-out c d.outs first

    nothing-more : (n k : ℕ) → k ≡ 0 → n + k ≡ n
    nothing-more n k q = omega (arith, q)

    go : (o : Option Counter) → (elim o as (λ z. Moving) [ Some n ↦ world.fails (fault.Spent n) m.world | None ↦ world.come_out c d.outs first ]).fault ≡ None
        → Alike w (elim o as (λ z. Moving) [ Some n ↦ world.fails (fault.Spent n) m.world | None ↦ world.come_out c d.outs first ]).world
    go (Some n) f = absurd (none_some (sym f))
    go None f = record {
      ended = λ e. ap (ended_by e) r.lines ∙ ended-more e m.world.shown (out_lines c d.outs m.world.calls) ∙ nothing-more (ended_by e m.world.shown) (ended_by e (out_lines c d.outs m.world.calls)) (none-out c e d.outs m.world.calls) ∙ b.ended e;
      unshown = r.unshown ∙ b.unshown;
      tops = λ e. same-tops first.world (world.come_out c d.outs first).world r.clerks r.boots e ∙ b.tops d.clerk e;
      seats = λ e. ap (seat e) (r.durable ∙ b.durable);
    }

abbrev topped : Bool → ℕ → ℕ
topped z n = elim z as (λ y. ℕ) [ true ↦ n | false ↦ n + 1 ]

-- a clerk that runs goes on running
pub running-tops : (w v : World) (c : ℕ) (k : Clerk) → at c w.clerks ≡ Some k → v.clerks ≡ w.clerks → v.boots ≡ w.boots → (now : Clerk) (e : ℕ) → top e (record v { clerks = put c now v.clerks }) ≡ top e w
running-tops w v c k q r s now e =
    ap (λ o. topped (is_some o) (boot e v)) (at-put e c now v.clerks) ∙ ap (λ x. topped (is_some (cond (e == c) (Some now) (at e x))) (boot e v)) r ∙ ap (λ x. topped (is_some (cond (e == c) (Some now) (at e w.clerks))) (at_or 0 e x)) s
    ∙ go (e == c) refl
  where
    go : (z : Bool) → (e == c) ≡ z → topped (is_some (cond z (Some now) (at e w.clerks))) (boot e w) ≡ top e w
    go false p = refl
    go true p = sym (ap (λ o. topped (is_some o) (boot e w)) (ap (λ x. at x w.clerks) (equal e c p) ∙ q))

-- and one that starts has the next boot
pub starting-tops : (w : World) (c : ℕ) → at c w.clerks ≡ None → (v : World) → v.clerks ≡ w.clerks → v.boots ≡ put c (boot c w + 1) w.boots → (now : Clerk) (e : ℕ) → top e (record v { clerks = put c now v.clerks }) ≡ top e w
starting-tops w c q v r s now e =
    ap (λ o. topped (is_some o) (boot e v)) (at-put e c now v.clerks) ∙ ap (λ x. topped (is_some (cond (e == c) (Some now) (at e x))) (boot e v)) r
    ∙ ap (λ x. topped (is_some (cond (e == c) (Some now) (at e w.clerks))) (at_or 0 e x)) s ∙ ap (λ x. topped (is_some (cond (e == c) (Some now) (at e w.clerks))) (or_else 0 x)) (at-put e c (boot c w + 1) w.boots)
    ∙ go (e == c) refl
  where
    go : (z : Bool) → (e == c) ≡ z → topped (is_some (cond z (Some now) (at e w.clerks))) (or_else 0 (cond z (Some (boot c w + 1)) (at e w.boots))) ≡ top e w
    go false p = refl
    go true p = sym (ap (λ x. topped (is_some (at x w.clerks)) (boot x w)) (equal e c p) ∙ ap (λ o. topped (is_some o) (boot c w)) q)
