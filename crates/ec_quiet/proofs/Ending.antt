-- Where nothing is under way, nothing is pending, and old messages may be forgotten.
use Rattle.std.proofs.Common.{◌≡◌, refl, sym, ap, ◌∙◌, subst, arith, ◌≤◌, ℕ, T, Bool, true, false, ◌||◌, cond, List, [], ◌∷◌, ◌++◌, length}
use Rattle.std.specs.Prelude.{Option, None, Some, is_some, ◌+◌, nat_lt, filter}
use Rattle.std.specs.List.Sorted.{IsStrictlyIncreasing}
use Rattle.ec_base.specs.Tables.{Table, at}
use Rattle.ec_volume.specs.Update.{member}
use Rattle.ec_history.specs.History.{Each}
use Rattle.ec_protocol.specs.World.{forget, kept_messages, pending}
use Rattle.ec_protocol.specs.declared.world.Sent.{Sent}
use Rattle.ec_protocol.specs.declared.world.World.{World}
use Rattle.ec_quiet.specs.Scenes.{IsScene, Mail, Scene, letter, mail_of}

some-letter : (o : Option Sent) (ms : Mail) → T (is_some o) → letter o ++ ms ≡ [] → ⊥
some-letter None ms t f = absurd t
some-letter (Some s) ms t f = grind (arith, f)

none-left : (pool : Table Sent) (ns : List ℕ) → Each (λ n. T (is_some (at n pool))) ns → mail_of pool ns ≡ [] → ns ≡ []
none-left pool [] k e = refl
none-left pool (n ∷ ns) k e = absurd (some-letter (at n pool) (mail_of pool ns) k.0 e)

each-kept : (P : ℕ × Sent → Type 0) (p : ℕ × Sent → Bool) (es : Table Sent) → Each P es → Each P (filter p es)
each-kept P p [] a = tt
each-kept P p (e ∷ es) a = go (p e) (each-kept P p es a.1)
  where
    go : (b : Bool) → Each P (filter p es) → Each P (cond b (e ∷ filter p es) (filter p es))
    go true r = (a.0, r)
    go false r = r

pub none-rise : IsStrictlyIncreasing []
none-rise k i = absurd (omega (arith, i))

module _ (w : World) (sc : Scene) (i : IsScene w sc) (none : sc.mail ≡ []) where
  empty : w.pending ≡ []
  empty = none-left w.pool w.pending i.kept (i.mail ∙ none)

  pub ends : (pending w ≡ 0) × IsScene (forget w) sc
  ends = (
    ap length empty,
    record {
      server = i.server;
      durable = i.durable;
      sure = i.sure;
      linked = i.linked;
      clerks = i.clerks;
      mail = ap (mail_of (forget w).pool) empty ∙ sym none;
      kept = subst (Each (λ n. T (is_some (at n (forget w).pool)))) (sym empty) tt;
      rising = subst IsStrictlyIncreasing (sym empty) none-rise;
      pending = subst (Each (λ n. n ≤ w.sent)) (sym empty) tt;
      pool = each-kept (λ e. e.0 ≤ w.sent) (λ e. nat_lt w.sent (e.0 + kept_messages) || member e.0 w.pending) w.pool i.pool;
    },
  )
