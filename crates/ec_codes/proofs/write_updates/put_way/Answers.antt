use Rattle.std.proofs.Common.{◌≡◌, ◌∙◌, ◌++◌, ◌∷◌, [], List, ℕ, length, ap, append_assoc, arith}
use Rattle.std.specs.List.{flat_map}
use Rattle.ec_volume.specs.Update.{Above}
use Rattle.ec_volume.specs.declared.image.Kind.{Kind}
use Rattle.ec_codes.specs.Updates.{step_spell, way_fields}
use Rattle.ec_codes.specs.SoundLaws.{way_short, way_fits}
use Rattle.ec_codes.proofs.write_updates.put_way.Goals as goal

spelled : (k : Kind) (into : ℕ) (others : List ℕ) (up : Above) (old mid new : List ℕ) → mid ≡ old ++ length up ∷ [] → new ≡ mid ++ flat_map step_spell up → new ≡ old ++ (way_fields k into others).spell up
unfolding way_fields
spelled k into others up old mid new h i = i ∙ ap (λ xs. xs ++ flat_map step_spell up) h ∙ append_assoc old (length up ∷ []) (flat_map step_spell up)

pub overflow_cast-up : goal.overflow_cast-up
overflow_cast-up c = omega (arith, way_short c.args.kind c.args.into c.args.up.now c.requires)

pub returns : goal.returns
returns c = λ others way. (
  spelled c.args.kind c.args.into others c.args.up.now c.args.out.now.items c.put_byte.new.out.items c.put_steps.new.out.items c.in_ok-put_byte.ensures.0 c.in_ok-put_steps.ensures.spelled,
  way_fits c.args.kind c.args.into others c.args.up.now way c.in_ok-put_byte.ensures.1 c.in_ok-put_steps.ensures.fit,
)
