-- What decides a part of a level vector.
use Rattle.std.specs.Prelude.{◌≡◌, ℕ, ◌+◌, ◌%◌, ◌<◌, cond, leb, ℤ, pos, length, Option, None}
use Rattle.arith.specs.Gap.{gap}
use Rattle.arith.specs.Ceil.{ceil_div}
use Rattle.constructor.specs.Level.{scale_of, target_of, layering_of}
use Rattle.constructor.specs.Side.{half_of, part_by, side_by}
use Rattle.constructor.specs.declared.Layering.TheVariants.{Numeric}
use Rattle.constructor.specs.declared.Target.{Target}
use Rattle.preference.specs.List.{preference_at}
use Rattle.limits.specs.Limits.{level_count}
use Rattle.preference.specs.Parts.{max_levels, part_of}
use Rattle.preference.specs.declared.Preference.{Preference}
use Rattle.preference.specs.declared.PreferenceList.{PreferenceList}
use Rattle.level_table.specs.declared.Rule.{Rule}

-- of part `half` of a preference
abbrev pub rule_for : Preference → ℕ → Rule
rule_for p half =
    record {
      column = p.column;
      target = target_of p.constructor;
      step = (scale_of p.constructor).step;
      layering = layering_of p.constructor;
      half = half_of p.constructor half;
    }

abbrev pub zero_rule : Rule
zero_rule = record {
  column = 0;
  target = record { low = pos 0; up = pos 0 };
  step = 0;
  layering = Numeric;
  half = None;
}

-- the rule of part k
unfoldable pub rule_of : PreferenceList → ℕ → Rule
rule_of l k =
    cond (leb (length (max_levels l)) k) zero_rule (rule_for (preference_at l (part_of l k).place) (part_of l k).half)

-- r is the rule of part k, which is no part past the last
pub record RuleOf (l : PreferenceList) (k : ℕ) (r : Rule) : Type 0 where
  pub counted : k < length (max_levels l)
  pub rule : r ≡ rule_of l k

-- the part that a value gets by its distance from a target, in 16 bits
abbrev pub level_by : Target → ℕ → Option ℕ → ℤ → ℕ
level_by target step half v =
    part_by half (ceil_div (gap target.low v + gap v target.up) step) (side_by target.low target.up v)
    % level_count

-- the part that a rule makes of a value by its distance, in 16 bits
abbrev pub distance_level : Rule → ℤ → ℕ
distance_level r = level_by r.target r.step r.half
