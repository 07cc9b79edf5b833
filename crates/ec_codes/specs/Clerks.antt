-- The fields that tell a clerk and its age.
use Rattle.std.specs.Prelude.{ℕ, Bool, true, nat_lt, List, Option, Some}
use Rattle.ec_base.specs.Limits.{clerk_count}
use Rattle.ec_base.specs.declared.ids.Age.{Age}
use Rattle.ec_codes.specs.Formats.{Format, byte, such, then_by, standing}
use Rattle.ec_codes.specs.Fields.{word, long}

-- a clerk's number
unfoldable pub clerk_field : Format ℕ
clerk_field = such (λ n. nat_lt n clerk_count) byte

abbrev pub age_parts : Age → ℕ × ℕ
age_parts a = (a.boot, a.round)

abbrev pub age_of : ℕ × ℕ → Option Age
age_of p = Some (record { boot = p.0; round = p.1 })

-- boot and round
unfoldable pub age_field : Format Age
age_field = standing age_parts (λ a. true) age_of (then_by long (λ boot. word))
