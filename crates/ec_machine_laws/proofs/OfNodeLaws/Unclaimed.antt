-- A session that was given and hasn't claimed: other sessions' claims, and all else that a server does, leave it so.
use Rattle.std.proofs.Common.{◌≡◌, subst, arith, ◌<◌, ◌==◌, ◌||◌, ℕ, T, Bool, true, false, not, cond, List, [], ◌∷◌, Option, Some, None}
use Rattle.std.specs.Prelude.{Ok}
use Rattle.std.specs.List.{filter}
use Rattle.ec_base.specs.declared.ids.Age.{Age}
use Rattle.ec_volume.specs.Update.{member}
use Rattle.ec_durable.specs.Durable.{step}
use Rattle.ec_durable.specs.declared.record.Record.{Record}
use Rattle.ec_durable.specs.declared.record.Record.TheVariants as record_of
use Rattle.ec_durable.specs.declared.state.Durable.{Durable}
use Rattle.ec_protocol.specs.Server.{add_claimed, forget_old}
use Rattle.ec_protocol.specs.declared.server.Server.{Server}
use Rattle.ec_machine_laws.proofs.OfAppliedOnce.Moves.{moves}
use Rattle.ec_machine_laws.proofs.OfNodeLaws.Taken.{IsKept}
use Rattle.ec_base.proofs.Bools.{or-right}
use Rattle.ec_base.proofs.Numbers.{other-number}

pub record HasNot (s : ℕ) (v : Server) : Type 0 where
  pub unclaimed : T (member s v.claimed) → ⊥
  pub given : s < v.durable.next_session

or-one : (a b c : Bool) → T (a || b) → (T b → T c) → T (a || c)
or-one true b c h f = tt
or-one false b c h f = f h

in-part : (test : ℕ → Bool) (s : ℕ) (xs : List ℕ) → T (member s (filter test xs)) → T (member s xs)
in-part test s [] h = h
in-part test s (x ∷ xs) h = go (test x) h (in-part test s xs)
  where
    go : (b : Bool) → T (member s (cond b (x ∷ filter test xs) (filter test xs))) → (T (member s (filter test xs)) → T (member s xs)) → T ((s == x) || member s xs)
    go true h f = or-one (s == x) (member s (filter test xs)) (member s xs) h f
    go false h f = or-right (s == x) (member s xs) (f h)

pub next-later : (r : Record) (d e : Durable) → step r d ≡ Ok e → (s : ℕ) → s < d.next_session → s < e.next_session
next-later r d e ok s lt = let le = (moves r d e ok).1.later in omega (arith, lt, le)

added : (s n : ℕ) (xs : List ℕ) → s < n → (T (member s xs) → ⊥) → T (member s (n ∷ xs)) → ⊥
added s n xs lt f m = f (subst (λ b. T (b || member s xs)) (other-number s n lt) m)

module _ (s : ℕ) where
  abbrev pub IsOther : ℕ → Type 0
  IsOther ss = (s == ss) ≡ false

  open-kept : (v : Server) (c : ℕ) (age : Age) (old : Option ℕ) (e : Durable) → step (record_of.Open c age v.durable.next_session) v.durable ≡ Ok e → HasNot s v
      → HasNot s (add_claimed v.durable.next_session (forget_old old (record v { durable = e })))
  open-kept v c age None e ok h = record {
    unclaimed = added s v.durable.next_session v.claimed h.given h.unclaimed;
    given = next-later (record_of.Open c age v.durable.next_session) v.durable e ok s h.given;
  }
  open-kept v c age (Some ss) e ok h = record {
    unclaimed = added s v.durable.next_session (filter (λ x. not (x == ss)) v.claimed) h.given (λ m. h.unclaimed (in-part (λ x. not (x == ss)) s v.claimed m));
    given = next-later (record_of.Open c age v.durable.next_session) v.durable e ok s h.given;
  }

  pub unclaimed-kept : IsKept (HasNot s) IsOther
  unclaimed-kept = record {
    steps = λ v r e ok h. record { unclaimed = h.unclaimed; given = next-later r v.durable e ok s h.given };
    forgets = λ v ss h. record { unclaimed = λ m. h.unclaimed (in-part (λ x. not (x == ss)) s v.claimed m); given = h.given };
    opens = open-kept;
    others = λ v ts ws n rs h. record { unclaimed = h.unclaimed; given = h.given };
    claims = λ v ss ts other h. record { unclaimed = λ m. h.unclaimed (subst (λ b. T (b || member s v.claimed)) other m); given = h.given };
  }
