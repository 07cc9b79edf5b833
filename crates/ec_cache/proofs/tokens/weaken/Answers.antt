use Rattle.std.proofs.Common.{◌≡◌, ◌∙◌, ap, sym, reverse, nat_eq, Some, None}
use Rattle.std.specs.Map.{lookup, set_value}
use Rattle.std.specs.Option.{option_copied_mut}
use Rattle.ec_base.specs.declared.ids.Hold.{Hold}
use Rattle.ec_base.specs.Holds.{weaker}
use Rattle.ec_cache.specs.declared.state.Held.{Held}
use Rattle.ec_cache.proofs.Order.{changed-reverse, unchanged-reverse}
use Rattle.ec_cache.proofs.tokens.weaken.Goals as goal

pub returns-in-Some : goal.returns-in-Some
returns-in-Some c =
    let es = c.args.tokens.now.entries in
    let held = c.in-Some.held.now in
    let make : Hold → Held = λ hold. record { hold = hold; number = held.number; image = held.image } in
    let found : lookup (nat_eq c.args.obj) es ≡ Some held =
    sym (ap (λ k. lookup (nat_eq k) es) c.get.ensures.value) ∙ sym c.peek_mut.ensures.value ∙ ap option_copied_mut c.in-Some.is
    in
    ap (λ k. reverse (set_value (nat_eq k) es (make c.weaker-held.result))) c.get.ensures.value
    ∙ ap (λ hold. reverse (set_value (nat_eq c.args.obj) es (make hold))) c.weaker-held.ensures
    ∙ changed-reverse c.args.obj (λ h. record h { hold = weaker c.args.to h.hold }) held es c.len.ensures.valid.0 found

pub returns-in_default : goal.returns-in_default
returns-in_default c =
    let es = c.args.tokens.now.entries in
    let none : lookup (nat_eq c.args.obj) es ≡ None =
    sym (ap (λ k. lookup (nat_eq k) es) c.get.ensures.value) ∙ sym c.peek_mut.ensures.value ∙ ap option_copied_mut c.in_default.is
    in
    unchanged-reverse c.args.obj (λ h. record h { hold = weaker c.args.to h.hold }) es none
