-- What comes out of a clerk's step, in the world.
use Rattle.std.proofs.Common.{◌≡◌, refl, sym, ap, subst, ◌∙◌, ◌+◌, ℕ, true, false, List, [], ◌∷◌, ◌++◌, Option, Some, None, append-nil, append_assoc}
use Rattle.ec_base.specs.Tables.{Table}
use Rattle.ec_plain.specs.declared.call.Call.{Call}
use Rattle.ec_history.specs.declared.entry.Answer.{Answer}
use Rattle.ec_history.specs.declared.shown.Shown.{Shown}
use Rattle.ec_history.specs.declared.shown.Shown.TheVariants as show
use Rattle.ec_wire.specs.declared.msg.Msg.{Msg}
use Rattle.ec_protocol.specs.World.{Moving, call_of, come_out, less_call, send, show_answer, show_line, with_world}
use Rattle.ec_protocol.specs.declared.clerk.Out.{Out}
use Rattle.ec_protocol.specs.declared.clerk.Out.TheVariants as out
use Rattle.ec_protocol.specs.declared.world.World.{World}
use Rattle.ec_coherence.specs.Steps as steps
use Rattle.ec_coherence.specs.Steps.{calls_after, out_lines, sends}
use Rattle.ec_lawful.proofs.ForWhole.Pool.{Pooled, pooled-send}

-- the calls under way
abbrev pub Calls : Type 0
Calls = Table (Table (ℕ × Call))

-- what came out changes the pool, the calls under way and the lines
pub record Came (c : ℕ) (os : List Out) (m n : Moving) : Type 0 where
  pub server : n.world.server ≡ m.world.server
  pub durable : n.world.durable ≡ m.world.durable
  pub unshown : n.world.unshown ≡ m.world.unshown
  pub clerks : n.world.clerks ≡ m.world.clerks
  pub boots : n.world.boots ≡ m.world.boots
  pub calls : n.world.calls ≡ calls_after c os m.world.calls
  pub lines : n.world.shown ≡ m.world.shown ++ out_lines c os m.world.calls
  pub piece : n.shown ≡ m.shown ++ out_lines c os m.world.calls
  pub fault : n.fault ≡ m.fault
  pub pool : (ms : List (ℕ × Msg)) → Pooled m.world ms → Pooled n.world (ms ++ sends c os)

pub came-out : (c : ℕ) (os : List Out) (m : Moving) → Came c os m (come_out c os m)
came-out c [] m = record {
  server = refl;
  durable = refl;
  unshown = refl;
  clerks = refl;
  boots = refl;
  calls = refl;
  lines = sym (append-nil m.world.shown);
  piece = sym (append-nil m.shown);
  fault = refl;
  pool = λ ms p. subst (Pooled m.world) (sym (append-nil ms)) p;
}
came-out c (out.Send x ∷ os) m =
    let r = came-out c os (with_world (send c x) m) in
    record {
      server = r.server;
      durable = r.durable;
      unshown = r.unshown;
      clerks = r.clerks;
      boots = r.boots;
      calls = r.calls;
      lines = r.lines;
      piece = r.piece;
      fault = r.fault;
      pool = λ ms p. subst (Pooled (come_out c os (with_world (send c x) m)).world) (append_assoc ms ((c, x) ∷ []) (sends c os)) (r.pool (ms ++ (c, x) ∷ []) (pooled-send c x m.world ms p));
    }
came-out c (out.Told ns ∷ os) m =
    let r = came-out c os (show_line (show.Told c ns) m) in
    record {
      server = r.server;
      durable = r.durable;
      unshown = r.unshown;
      clerks = r.clerks;
      boots = r.boots;
      calls = r.calls;
      lines = r.lines ∙ append_assoc m.world.shown (show.Told c ns ∷ []) (out_lines c os m.world.calls);
      piece = r.piece ∙ append_assoc m.shown (show.Told c ns ∷ []) (out_lines c os m.world.calls);
      fault = r.fault;
      pool = r.pool;
    }
came-out c (out.Answer n a op ∷ os) m = go (steps.call_of c n m.world.calls) refl (λ x. came-out c os x)
  where
    go : (o : Option (ℕ × Call)) → steps.call_of c n m.world.calls ≡ o → ((x : Moving) → Came c os x (come_out c os x)) → Came c (out.Answer n a op ∷ os) m (come_out c (out.Answer n a op ∷ os) m)
    go None q f = record {
      server = ap (λ x. x.world.server) at ∙ (f m).server;
      durable = ap (λ x. x.world.durable) at ∙ (f m).durable;
      unshown = ap (λ x. x.world.unshown) at ∙ (f m).unshown;
      clerks = ap (λ x. x.world.clerks) at ∙ (f m).clerks;
      boots = ap (λ x. x.world.boots) at ∙ (f m).boots;
      calls = ap (λ x. x.world.calls) at ∙ (f m).calls ∙ ap (λ x. calls_after c os (elim x as (λ z. Calls) [ None ↦ m.world.calls | Some l ↦ steps.less_call c n m.world.calls ])) (sym q);
      lines = ap (λ x. x.world.shown) at ∙ (f m).lines ∙ ap (λ x. m.world.shown ++ now x) (sym q);
      piece = ap (λ x. x.shown) at ∙ (f m).piece ∙ ap (λ x. m.shown ++ now x) (sym q);
      fault = ap (λ x. x.fault) at ∙ (f m).fault;
      pool = λ ms p. subst (λ x. Pooled x.world (ms ++ sends c os)) (sym at) ((f m).pool ms p);
    }
      where
        now : Option (ℕ × Call) → List Shown
        now o = elim o as (λ z. List Shown) [ None ↦ out_lines c os m.world.calls | Some l ↦ show.Answered l.0 c l.1 a op ∷ out_lines c os (steps.less_call c n m.world.calls) ]

        at : come_out c (out.Answer n a op ∷ os) m ≡ come_out c os m
        at = ap (λ x. come_out c os (elim x as (λ z. Moving) [ None ↦ m | Some l ↦ with_world (less_call c n) (show_line (show.Answered l.0 c l.1 a op) m) ])) q
    go (Some l) q f = record {
      server = ap (λ x. x.world.server) at ∙ (f next).server;
      durable = ap (λ x. x.world.durable) at ∙ (f next).durable;
      unshown = ap (λ x. x.world.unshown) at ∙ (f next).unshown;
      clerks = ap (λ x. x.world.clerks) at ∙ (f next).clerks;
      boots = ap (λ x. x.world.boots) at ∙ (f next).boots;
      calls = ap (λ x. x.world.calls) at ∙ (f next).calls ∙ ap (λ x. calls_after c os (elim x as (λ z. Calls) [ None ↦ m.world.calls | Some y ↦ steps.less_call c n m.world.calls ])) (sym q);
      lines = ap (λ x. x.world.shown) at ∙ (f next).lines ∙ append_assoc m.world.shown (show.Answered l.0 c l.1 a op ∷ []) (out_lines c os (steps.less_call c n m.world.calls)) ∙ ap (λ x. m.world.shown ++ now x) (sym q);
      piece = ap (λ x. x.shown) at ∙ (f next).piece ∙ append_assoc m.shown (show.Answered l.0 c l.1 a op ∷ []) (out_lines c os (steps.less_call c n m.world.calls)) ∙ ap (λ x. m.shown ++ now x) (sym q);
      fault = ap (λ x. x.fault) at ∙ (f next).fault;
      pool = λ ms p. subst (λ x. Pooled x.world (ms ++ sends c os)) (sym at) ((f next).pool ms p);
    }
      where
        next : Moving
        next = with_world (less_call c n) (show_line (show.Answered l.0 c l.1 a op) m)

        now : Option (ℕ × Call) → List Shown
        now o = elim o as (λ z. List Shown) [ None ↦ out_lines c os m.world.calls | Some y ↦ show.Answered y.0 c y.1 a op ∷ out_lines c os (steps.less_call c n m.world.calls) ]

        at : come_out c (out.Answer n a op ∷ os) m ≡ come_out c os next
        at = ap (λ x. come_out c os (elim x as (λ z. Moving) [ None ↦ m | Some y ↦ with_world (less_call c n) (show_line (show.Answered y.0 c y.1 a op) m) ])) q
came-out c (out.OldBoot a ∷ os) m =
    let r = came-out c os m in
    record { server = r.server; durable = r.durable; unshown = r.unshown; clerks = r.clerks; boots = r.boots; calls = r.calls; lines = r.lines; piece = r.piece; fault = r.fault; pool = r.pool }
