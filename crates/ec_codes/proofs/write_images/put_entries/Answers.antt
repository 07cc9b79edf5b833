use Rattle.std.proofs.Common.{◌≡◌, ◌∙◌, ◌++◌, ◌∷◌, [], List, ℕ, length, ap, subst, true, append_assoc, arith}
use Rattle.ec_codes.specs.Formats.{byte}
use Rattle.std.specs.List.{flat_map}
use Rattle.ec_volume.specs.Entries.{Entries}
use Rattle.ec_codes.specs.Images.{entry_spell, entries_field}
use Rattle.ec_codes.specs.EntryLaws.{entries_coded}
use Rattle.ec_codes.proofs.write_images.put_entries.Goals as goal

spelled : (es : Entries) (count : ℕ) (old mid new : List ℕ) → count ≡ length es → mid ≡ old ++ count ∷ [] → new ≡ mid ++ flat_map entry_spell es → new ≡ old ++ entries_field.spell es
unfolding entries_field
spelled es count old mid new n h i = i ∙ ap (λ xs. xs ++ flat_map entry_spell es) (h ∙ ap (λ k. old ++ k ∷ []) n) ∙ append_assoc old (length es ∷ []) (flat_map entry_spell es)

pub returns : goal.returns
returns c = (
  spelled c.args.entries.now c.len-count.result c.args.out.now.items c.put_byte.new.out.items c.put_rows.new.out.items c.len-count.ensures.value c.in_ok-put_byte.ensures.0 c.in_ok-put_rows.ensures.spelled,
  entries_coded c.args.entries.now (subst (λ n. byte.fits n ≡ true) c.len-count.ensures.value c.in_ok-put_byte.ensures.1) c.requires.most c.in_ok-put_rows.ensures.fit c.len-count.ensures.sorted c.requires.once,
)
