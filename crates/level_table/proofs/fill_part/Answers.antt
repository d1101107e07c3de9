use Rattle.std.specs.Prelude.{◌≡◌, ℕ, ◌%◌}
use Rattle.std.proofs.Common.{rules, sym, ap, ◌∙◌, mod-eq_of_lt}
use Rattle.run_log.specs.Log.{row_at}
use Rattle.preference.specs.Level.{layer_of}
use Rattle.preference.specs.Names.{among}
use Rattle.preference.specs.Laws.Parts.{level_past}
use Rattle.preference.specs.declared.PartAt.{PartAt}
use Rattle.level_table.specs.Table.{part_at}
use Rattle.level_table.specs.Laws.Rule.{rule_numeric, rule_layers}
use Rattle.level_table.specs.declared.Rule.{Rule}
use Rattle.level_table.proofs.fill_part.Goals as goal

pub returns-in_default : goal.returns-in_default
returns-in_default c =
    let a = c.args in
    c.fill_column.ensures (part_at a.list.now a.log.now a.k) (λ r v x e m s p.
    let q : x ≡ 0 = search rules in
    q ∙ sym (ap (λ (n : ℕ). n % 65536) (level_past a.list.now (row_at a.log.now r) a.k c.in_default.ensures)))

pub returns-in-Numeric : goal.returns-in-Numeric
returns-in-Numeric c =
    let a = c.args in
    let u = c.in-Some.ensures.rule in
    let y = ap (λ (r : Rule). r.layering) (sym u) ∙ c.in-Numeric.is in
    c.fill_distances.ensures (part_at a.list.now a.log.now a.k) (λ r v x e m s p.
    p ∙ rw u (ap (λ (n : ℕ). n % 65536) (rule_numeric a.list.now (row_at a.log.now r) a.k y v (rw u at e) m)))

pub returns-in-Layers : goal.returns-in-Layers
returns-in-Layers c =
    let a = c.args in
    let u = c.in-Some.ensures.rule in
    let n = c.names_of-names in
    let y = ap (λ (r : Rule). r.layering) (sym u) ∙ c.in-Layers.is in
    c.fill_column-in-Layers.ensures (part_at a.list.now a.log.now a.k) (λ r v x e m s p.
    let q : x ≡ among n.result.values n.result.layers n.result.count v c.in-Layers.others = search rules in
    let w = rw u at e in
    let f = n.ensures.layer v c.in-Layers.others
    ∙ ap (λ (q : PartAt). layer_of a.list.now q.place v c.in-Layers.others) c.part_at.ensures
    ∙ rw w (rule_layers a.list.now (row_at a.log.now r) a.k _ _ y) in
    sym (mod-eq_of_lt s) ∙ ap (λ (n : ℕ). n % 65536) (q ∙ f))
