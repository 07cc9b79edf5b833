use Rattle.std.proofs.Common.{◌∙◌, sym, subst}
use Rattle.std.specs.Prelude.{T}
use Rattle.std.proofs.lemmas.Result.{on_ok_weaker}
use Rattle.ec_volume.specs.Update.{member}
use Rattle.ec_log.proofs.OfChains.Linked.{put-there, put-twice, put-here, stays-at, first-here, first-stays}
use Rattle.ec_log.proofs.chains.chains.link_one.Goals as goal

pub put_back-requires : goal.put_back-requires
put_back-requires c = put-there c.args.obj c.new.result c.args.chains.now c.replace.new.self c.in-Some.ensures.some

pub returns-in-Some-clause-old : goal.returns-in-Some-clause-old
returns-in-Some-clause-old c o n l t =
    stays-at c.args.obj o n c.in-Some.chain c.push-pushed.new.self c.args.chains.now c.put_back.new.chains (sym c.replace.ensures.value ∙ c.in-Some.is)
    (λ p. put-twice c.args.obj p c.new.result c.push-pushed.new.self c.args.chains.now c.replace.new.self c.put_back.new.chains c.in-Some.ensures.some c.put_back.ensures) (c.push-pushed.ensures.old n l) t

pub returns-in-Some-clause-new : goal.returns-in-Some-clause-new
returns-in-Some-clause-new c =
    on_ok_weaker c.push-pushed.result
    (λ t. subst (λ l. T (member c.args.op l)) (sym (put-here c.args.obj c.new.result c.push-pushed.new.self c.args.chains.now c.replace.new.self c.put_back.new.chains c.in-Some.ensures.some c.put_back.ensures)) t)
    c.push-pushed.ensures.new

pub returns-in-Some-clause-kept : goal.returns-in-Some-clause-kept
returns-in-Some-clause-kept c =
    on_ok_weaker c.push-pushed.result
    (λ there o t. stays-at c.args.obj o c.args.op c.in-Some.chain c.push-pushed.new.self c.args.chains.now c.put_back.new.chains (sym c.replace.ensures.value ∙ c.in-Some.is)
    (λ p. put-twice c.args.obj p c.new.result c.push-pushed.new.self c.args.chains.now c.replace.new.self c.put_back.new.chains c.in-Some.ensures.some c.put_back.ensures) (λ u. there) t)
    c.push-pushed.ensures.new

pub returns-in_ok-push-in-None-clause-old : goal.returns-in_ok-push-in-None-clause-old
returns-in_ok-push-in-None-clause-old c o n l t =
    first-stays c.insert.result c.args.obj o n c.push.new.self c.args.chains.now c.replace.new.self c.insert.new.self (sym c.replace.ensures.value ∙ c.in-None.is) c.in-None.ensures.none c.insert.ensures.ok c.insert.ensures.err t

pub returns-in_ok-push-in-None-clause-new : goal.returns-in_ok-push-in-None-clause-new
returns-in_ok-push-in-None-clause-new c =
    on_ok_weaker c.insert.result (λ e. subst (λ l. T (member c.args.op l)) (sym (first-here c.args.obj c.push.new.self c.replace.new.self c.insert.new.self e)) c.in_ok-push-in-None.ensures.new) c.insert.ensures.ok

pub returns-in_ok-push-in-None-clause-kept : goal.returns-in_ok-push-in-None-clause-kept
returns-in_ok-push-in-None-clause-kept c =
    on_ok_weaker c.insert.result
    (λ e o t. first-stays c.insert.result c.args.obj o c.args.op c.push.new.self c.args.chains.now c.replace.new.self c.insert.new.self (sym c.replace.ensures.value ∙ c.in-None.is) c.in-None.ensures.none c.insert.ensures.ok c.insert.ensures.err t)
    c.insert.ensures.ok
