use Rattle.std.proofs.Common.{◌≡◌, true, length, refl, sym, ap, ◌∙◌, inl, inr, ⊎_elim, rules}
use Rattle.ec_outs.specs.Outs.{sends}
use Rattle.ec_clerknode.specs.declared.step.Step.{Step}
use Rattle.ec_clerknode.specs.Closed.{is_wanting}
use Rattle.ec_clerknode.proofs.Ends.{done_kept, failed_kept, told_kept, said_kept, wanted_kept, or_false}
use Rattle.ec_clerknode.proofs.state.State.add_step.Goals as goal
use Rattle.ec_base.proofs.Bools.{either as or_true}

pub returns : goal.returns
returns g c =
    let end = c.end_of-end in
    let kept = c.keep_all-kept.result in
    let sent = c.send_resting-sent.result.1 in
    let broken = c.is_broken_behind-self.ensures in
    let step : Step = record { pass = c.args.pass; deed = c.args.deed; outs = c.of-shot.result; sent = c.send_resting-sent.result.0; end = end.result; floor = c.floor-floor.result } in (
      step,
      record {
        list = c.and-self.ensures;
        steps = refl;
        pass_is = refl;
        deed_is = refl;
        outs_are = search rules;
        floor = search rules;
        whole = λ e. c.send_resting-sent.ensures.whole (done_kept kept sent end.result end.ensures.kept end.ensures.lost e) ∙ ap (λ l. length (sends l)) c.deref-2.ensures.value;
        top = search rules;
        clerk = refl;
        kept = search rules;
        told_more = λ up. c.keep_all-kept.ensures.told (told_kept kept sent end.result end.ensures.kept end.ensures.lost (or_false (is_wanting end.result) c.args.self.now.broken (sym broken ∙ up)));
        old_boot = search rules;
        given_same = search rules;
        got_more = search rules;
        counted = failed_kept kept sent end.result end.ensures.kept end.ensures.lost _ _ c.send_resting-sent.ensures.counts;
        linker = search rules;
        said = λ up. said_kept end.result (or_false (is_wanting end.result) c.args.self.now.broken (sym broken ∙ up));
        wanted = λ down. ⊎_elim (λ (e : is_wanting end.result ≡ true). inr (wanted_kept end.result e)) (λ (e : c.args.self.now.broken ≡ true). inl e) (or_true (is_wanting end.result) c.args.self.now.broken (sym broken ∙ down));
      },
      refl,
    )
