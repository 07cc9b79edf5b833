use Rattle.std.proofs.Common.{◌≡◌, ◌∙◌, ap, sym, reverse, nat_eq, Some, None}
use Rattle.std.specs.Map.{lookup, set_value}
use Rattle.std.specs.Option.{option_copied_mut}
use Rattle.std.proofs.lemmas.Result.{on_ok_weaker, on_err_weaker}
use Rattle.ec_volume.specs.Update.{effect}
use Rattle.ec_volume.specs.declared.image.Image.{Image}
use Rattle.ec_cache.specs.declared.state.Held.{Held}
use Rattle.ec_cache.proofs.Order.{changed-reverse, unchanged-reverse}
use Rattle.ec_cache.proofs.Changing.{put-back}
use Rattle.ec_cache.proofs.tokens.change_image.Goals as goal

pub returns-in-Some-clause-ok : goal.returns-in-Some-clause-ok
returns-in-Some-clause-ok c =
    let es = c.args.tokens.now.entries in
    let held = c.in-Some.held.now in
    let make : Image → Held = λ image. record { hold = held.hold; number = held.number; image = image } in
    let found : lookup (nat_eq c.args.obj) es ≡ Some held =
    sym (ap (λ k. lookup (nat_eq k) es) c.get.ensures.value) ∙ sym c.peek_mut.ensures.value ∙ ap option_copied_mut c.in-Some.is
    in
    on_ok_weaker c.effect.result
    (λ e.
    ap (λ k. reverse (set_value (nat_eq k) es (make c.effect.new.self))) c.get.ensures.value
    ∙ ap (λ image. reverse (set_value (nat_eq c.args.obj) es (make image))) e
    ∙ changed-reverse c.args.obj (λ h. record h { image = effect c.args.update.now c.args.obj h.image }) held es c.len.ensures.valid.0 found)
    c.effect.ensures.ok

pub returns-in-Some-clause-err : goal.returns-in-Some-clause-err
returns-in-Some-clause-err c =
    let es = c.args.tokens.now.entries in
    let held = c.in-Some.held.now in
    let make : Image → Held = λ image. record { hold = held.hold; number = held.number; image = image } in
    let found : lookup (nat_eq c.args.obj) es ≡ Some held =
    sym (ap (λ k. lookup (nat_eq k) es) c.get.ensures.value) ∙ sym c.peek_mut.ensures.value ∙ ap option_copied_mut c.in-Some.is
    in
    on_err_weaker c.effect.result
    (λ e.
    ap (λ k. set_value (nat_eq k) es (make c.effect.new.self)) c.get.ensures.value
    ∙ ap (λ image. set_value (nat_eq c.args.obj) es (make image)) e
    ∙ put-back c.args.obj held es found)
    c.effect.ensures.err

pub returns-in-None-clause-ok : goal.returns-in-None-clause-ok
returns-in-None-clause-ok c =
    let es = c.args.tokens.now.entries in
    let none : lookup (nat_eq c.args.obj) es ≡ None =
    sym (ap (λ k. lookup (nat_eq k) es) c.get.ensures.value) ∙ sym c.peek_mut.ensures.value ∙ ap option_copied_mut c.in-None.is
    in
    unchanged-reverse c.args.obj (λ h. record h { image = effect c.args.update.now c.args.obj h.image }) es none
