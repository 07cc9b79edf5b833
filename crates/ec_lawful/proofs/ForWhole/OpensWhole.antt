-- All facts of the system behind an opening, in which nothing happened yet.
use Rattle.std.proofs.Common.{◌≡◌, ◌<◌, ◌-◌, ℕ, zero, suc, T, not, length, List, [], ◌∷◌, Option, Some, None, refl, sym, subst, ◌∙◌, arith}
use Rattle.ec_base.specs.declared.ids.Age.{Age}
use Rattle.ec_volume.specs.Image.{entries_of, is_dir, is_gone}
use Rattle.ec_volume.specs.Update.{root}
use Rattle.ec_volume.specs.Volume.{images}
use Rattle.ec_volume.specs.declared.image.Image.TheVariants.{Gone, File, Dir}
use Rattle.ec_history.specs.History.{Each, Op}
use Rattle.ec_durable.specs.WellFormed.{WellFormed}
use Rattle.ec_durable.specs.declared.state.Durable.{Durable}
use Rattle.ec_coherence.specs.System.{clerk_in, clerk_of}
use Rattle.ec_coherence.specs.Tokens.{Names, view, is_hidden, is_untaken, side_in}
use Rattle.ec_coherence.proofs.ForServer.Tables.{same_some}
use Rattle.ec_lawful.specs.Olds.{opened_in, owner_from, frozen_if}
use Rattle.ec_lawful.proofs.ForWhole.Olds.{opened-all}
use Rattle.ec_lawful.proofs.ForWhole.Volumes.{entries-known, known-id}
use Rattle.ec_lawful.proofs.OfClerkSteps.ForCalls.Opening.{opening-calls, opening-rest}
use Rattle.ec_lawful.specs.OfClerkSteps.Names.{AreOnNamed}
use Rattle.ec_lawful.specs.OfClerkSteps.Zeros.{LeaveOut}
use Rattle.ec_lawful.proofs.ForWhole.LinesTell.{nothing-tells-all}
use Rattle.ec_lawful.proofs.ForWhole.FreshBegins.{begins-fresh}
use Rattle.ec_lawful.specs.Whole.{Whole}
use Rattle.ec_base.proofs.Options.{none_some}

-- no clerk is in any session
nobody : (d : Durable) (s : ℕ) → clerk_in (opened_in d) s ≡ None
nobody d s = by (owner_from 0 d.sessions s)
  where
    by : (o : Option (ℕ × Age)) → clerk_of s o (λ c b. None) ≡ None
    by None = refl
    by (Some o) = refl

-- so no id is in store
unhidden : (d : Durable) (s x : ℕ) → T (not (is_hidden (view (opened_in d)) s x))
unhidden d s x = subst (λ o. T (not (is_untaken 0 0 (side_in o) x))) (sym (nobody d s)) tt

-- nothing is frozen but nothing
frozen-none : (o : Option (ℕ × Age)) (ks : List Op) → frozen_if o ≡ Some ks → ks ≡ []
frozen-none None ks q = absurd (none_some q)
frozen-none (Some o) ks q = sym (same_some q)

name-each : (d : Durable) (es : List (List ℕ × ℕ)) → Each (λ e. e.1 < d.next_id) es → Each (λ e. Names (view (opened_in d)) e.1) es
name-each d [] each = tt
name-each d (e ∷ es) each = ((each.0, λ s. unhidden d s e.1), name-each d es each.1)

root-known : (d : Durable) → WellFormed d → root < d.next_id
root-known d wf = known-id d wf root (live (images d.volume root) (wf.volume.root_is_dir))
  where
    live : (i : _) → T (is_dir i) → T (not (is_gone i))
    live Gone h = absurd h
    live (File m s w bs) h = absurd h
    live (Dir m s w es) h = tt

less-itself : (n : ℕ) → 0 ≡ n - n
less-itself zero = refl
less-itself (suc n) = omega arith

pub opened-whole : (d : Durable) → WellFormed d → length d.sessions ≡ 16 → images d.volume 0 ≡ Gone → Whole (opened_in d)
opened-whole d wf sixteen gone = record {
  all = opened-all d wf sixteen;
  calls = opening-calls (opened_in d) (λ c. refl) refl;
  rest = opening-rest (opened_in d) (λ c. refl) refl;
  orderly = record { each = λ c b k q. absurd (none_some q) };
  names = record {
    root = (root-known d wf, λ s. unhidden d s root);
    origin = λ x. name-each d (entries_of (images d.volume x)) (entries-known d wf x);
    kept = tt;
    frozen = λ s ks q. subst (AreOnNamed (opened_in d)) (sym (frozen-none (owner_from 0 d.sessions s) ks q)) tt;
    ids = λ s k q. absurd (none_some (sym (nobody d s) ∙ q));
  };
  zeros = record {
    origin = gone;
    kept = tt;
    frozen = λ s ks q. subst (LeaveOut 0) (sym (frozen-none (owner_from 0 d.sessions s) ks q)) tt;
    next = omega (arith, root-known d wf);
    first = λ s le. omega (arith, le);
    clerks = λ c b k q. absurd (none_some q);
  };
  frees = record {
    unused = λ s x k q. absurd (none_some (sym (nobody d s) ∙ q));
    once = λ s k q. absurd (none_some (sym (nobody d s) ∙ q));
  };
  cuts = λ c b s k ks q. absurd (none_some q);
  counts = record { counted = λ c q. less-itself _; above = λ c. omega arith };
  fulls = tt;
  doubts = tt;
  shows = record { tells = nothing-tells-all (opened_in d) refl; fresh = begins-fresh (opened_in d) refl refl refl };
}
