use Rattle.laws.specs.Lists.{joined}
use Rattle.sheet_lines.specs.Line.{heading_line, fields_of, padded, field_width}
use Rattle.sheet_lines.proofs.put_heading.Goals as goal

pub returns : goal.returns
unfolding heading_line fields_of joined padded field_width
returns c = c.put_str.ensures
