-- What the history says stays where the server's tables, ids and sessions change, and no line is shown.
use Rattle.std.proofs.Common.{◌≡◌, refl, sym, ap, subst, ◌∙◌, inl, inr, ◌⊎◌, ℕ, Bool, true, false, not, ◌&&◌, ◌||◌, cond, T, List, [], ◌∷◌, ◌++◌, Option, Some, None}
use Rattle.std.specs.List.{filter, list_any}
use Rattle.ec_base.specs.declared.ids.Age.{Age}
use Rattle.ec_base.specs.Holds.{is_free}
use Rattle.ec_volume.specs.Update.{operands}
use Rattle.ec_history.specs.History.{History, Op, Each, Throughout, kept, numbers, of_start, is_one_of}
use Rattle.ec_history.specs.Legal.{IsLegal, leaves, is_call_of_other}
use Rattle.ec_history.specs.declared.entry.Entry.{Entry}
use Rattle.ec_history.specs.declared.entry.Entry.TheVariants as entry
use Rattle.ec_wire.specs.declared.msg.Msg.{Msg}
use Rattle.ec_durable.specs.declared.state.Durable.{Durable}
use Rattle.ec_protocol.specs.declared.server.Server.{Server}
use Rattle.ec_protocol.specs.declared.clerk.Clerk.{Clerk}
use Rattle.ec_coherence.specs.System.{System, base_of, is_of, is_open, undurable}
use Rattle.ec_coherence.specs.Tokens.{eff, eff_hold, view}
use Rattle.ec_coherence.specs.Events.{EventsAgree, CutAgrees, Frees, IsUncut, Untouched, same_op, shown_boot}
use Rattle.ec_coherence.proofs.ForServer.Tables.{each-map}
use Rattle.ec_base.proofs.Options.{none_some}
use Rattle.ec_base.proofs.Bools.{and-none}

-- none of no numbers is left alone by each entry
filter-none : (p : Op → Bool) (ks : List Op) → ((k : Op) → p k ≡ false) → filter p ks ≡ []
filter-none p [] f = refl
filter-none p (k ∷ ks) f = ap (λ b. cond b (k ∷ filter p ks) (filter p ks)) (f k) ∙ filter-none p ks f

or-true : (b : Bool) → T (b || true)
or-true true = tt
or-true false = tt

pub throughout-any : (P : History → ℕ × Entry → Type 0) → ((past : History) (e : ℕ × Entry) → P past e) → (past h : History) → Throughout P past h
throughout-any P f past [] = tt
throughout-any P f past (e ∷ h) = (f past e, throughout-any P f (past ++ e ∷ []) h)

pub none-touched : (g : System) (s : ℕ) (o : ℕ × Age) → undurable g.ghost s ≡ [] → (past : History) (e : ℕ × Entry) → Untouched g s o past e
none-touched g s o none past e = subst (λ ks. T (leaves (base_of g) (kept (base_of g) past) o.0 ks e)) (sym empty) (or-true (not (is_call_of_other o.0 e.1)))
  where
    empty : filter (is_one_of o.0 (shown_boot g o.0 (o.1).boot) (numbers (undurable g.ghost s))) (kept (base_of g) past) ≡ []
    empty = ap (λ us. filter (is_one_of o.0 (shown_boot g o.0 (o.1).boot) (numbers us)) (kept (base_of g) past)) none
        ∙ filter-none (is_one_of o.0 (shown_boot g o.0 (o.1).boot) []) (kept (base_of g) past) (λ k. and-none (of_start o.0 (shown_boot g o.0 (o.1).boot) k))

module _ (g : System) (d : Durable) (v : Option Server) (p : List (ℕ × Msg)) (ow : ℕ → Option (ℕ × Age)) (tk : ℕ → Bool) (gr fi : ℕ → ℕ) (ev : EventsAgree g) (most : d.max_objects ≡ g.durable.max_objects) where
  abbrev pub framed : System
  framed = record g { durable = d; server = v; pool = p; ghost = record (g.ghost) { owner = ow; taken = tk; grants = gr; first = fi } }

  -- each open session was open, or has nothing that isn't durable; the tokens of ended ones stay
  module _ (opens : (s : ℕ) → T (is_open framed s) → (T (is_open g s) × (ow s ≡ g.ghost.owner s)) ⊎ (undurable framed.ghost s ≡ []))
      (closed : (s : ℕ) (ks : List Op) → g.ghost.frozen s ≡ Some ks → (x : ℕ) → eff (view framed) s x ≡ eff (view g) s x)
      -- and each session keeps its owner
      (keeps : (s : ℕ) (o : ℕ × Age) → g.ghost.owner s ≡ Some o → ow s ≡ Some o) (unopened : (s : ℕ) → g.ghost.owner s ≡ None → g.ghost.frozen s ≡ None) where
    uncut-before : (c : ℕ) (k : Clerk) → IsUncut framed c k → IsUncut g c k
    uncut-before c k f s p = f s (keeps s (c, k.age) p)

    was-owner : (s : ℕ) (ks : List Op) (o : ℕ × Age) → g.ghost.frozen s ≡ Some ks → ow s ≡ Some o → g.ghost.owner s ≡ Some o
    was-owner s ks o f p = go (g.ghost.owner s) refl
      where
        go : (w : Option (ℕ × Age)) → g.ghost.owner s ≡ w → g.ghost.owner s ≡ Some o
        go None e = absurd (none_some (sym (unopened s e) ∙ f))
        go (Some a) e = e ∙ sym (keeps s a e) ∙ p

    frees-stay : (s : ℕ) (ks : List Op) → g.ghost.frozen s ≡ Some ks → (op : Op) → Frees g s op → Frees framed s op
    frees-stay s ks f op r = each-map (λ x. T (is_free (eff_hold (eff (view g) s x)))) (λ x. T (is_free (eff_hold (eff (view framed) s x)))) (operands op.update)
        (λ x z. subst (λ e. T (is_free (eff_hold e))) (sym (closed s ks f x)) z) r

    same-undurable : (s : ℕ) → ow s ≡ g.ghost.owner s → undurable framed.ghost s ≡ undurable g.ghost s
    same-undurable s e = ap (λ o. filter (λ k. is_of o k && not (g.ghost.is_durable k)) g.ghost.kept) e

    untouched-now : (s : ℕ) (o : ℕ × Age) → ow s ≡ Some o → T (is_open framed s) → Throughout (Untouched framed s o) [] g.ghost.history
    untouched-now s o w i = elim (opens s i) [
      | inl q ↦ subst (λ us. Throughout (λ h e. T (leaves (base_of g) (kept (base_of g) h) o.0 (filter (is_one_of o.0 (shown_boot g o.0 (o.1).boot) (numbers us)) (kept (base_of g) h)) e)) [] g.ghost.history)
          (sym (same-undurable s q.1)) (ev.untouched s o (sym q.1 ∙ w) q.0)
      | inr n ↦ throughout-any (Untouched framed s o) (none-touched framed s o n) [] g.ghost.history
    ]

    cut-stays : (c b s : ℕ) (k : Clerk) (ks : List Op) → g.ghost.frozen s ≡ Some ks → CutAgrees g c b s k ks → CutAgrees framed c b s k ks
    cut-stays c b s k ks f q = record {
      before = q.before;
      at = q.at;
      lost = q.lost;
      behind = q.behind;
      was = q.was;
      keeps = q.keeps;
      alone = q.alone;
      untold = q.untold;
      owes = q.owes;
      frozen = λ u o. elim (opens u o) [
        | inl w ↦ subst (Each (λ op. T (list_any (λ j. same_op j op) ks) → Frees framed s op)) (sym (same-undurable u w.1))
            (each-map (λ op. T (list_any (λ j. same_op j op) ks) → Frees g s op) (λ op. T (list_any (λ j. same_op j op) ks) → Frees framed s op) (undurable g.ghost u) (λ op r z. frees-stay s ks f op (r z)) (q.frozen u w.0))
        | inr n ↦ subst (Each (λ op. T (list_any (λ j. same_op j op) ks) → Frees framed s op)) (sym n) tt
      ];
      later = each-map (λ e. (r d f : ℕ) (ms : List ℕ) → e ≡ (r, entry.Loss d f ms) → Each (Frees g s) (filter (is_one_of d f ms) (kept (base_of g) q.before)))
          (λ e. (r d f : ℕ) (ms : List ℕ) → e ≡ (r, entry.Loss d f ms) → Each (Frees framed s) (filter (is_one_of d f ms) (kept (base_of g) q.before))) q.behind
          (λ e h r a b ms z. each-map (Frees g s) (Frees framed s) (filter (is_one_of a b ms) (kept (base_of g) q.before)) (λ op w. frees-stay s ks f op w) (h r a b ms z)) q.later;
    }

    pub framed-events : EventsAgree framed
    framed-events = record {
      placeable = ev.placeable;
      starts = ev.starts;
      untold = λ c b k r q n. ev.untold c b k r q (uncut-before c k n);
      placed = ev.placed;
      keeps = ev.keeps;
      legal = subst (λ n. IsLegal (base_of g) n g.ghost.history) (sym most) ev.legal;
      owes = λ c b k r q n. ev.owes c b k r q (uncut-before c k n);
      counts = ev.counts;
      covered = ev.covered;
      untouched = untouched-now;
      cuts = λ c b s k ks r q m f. cut-stays c b s k ks f (ev.cuts c b s k ks r q (was-owner s ks (c, k.age) f m) f);
    }
