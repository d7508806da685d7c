use Rattle.std.specs.Prelude.{◌-◌, List, map, take, drop}
use Rattle.grammar.specs.Form.{Form}
use Rattle.grammar.specs.Shape.{shape}
use Rattle.grammar.specs.declared.re.Re.{Re}
use Rattle.grammar.specs.declared.rows.Rows.{Rows}
use Rattle.grammar.specs.declared.span.Span.{Span}

-- the row that the span takes of the forms
abbrev pub row_at : List Re → Span → List Re
row_at forms span = take (span.end - span.start) (drop span.start forms)

-- the rows, in their order
abbrev pub rows_of : Rows → List (List Re)
rows_of rows = map (row_at rows.forms.items) rows.spans.items

-- the forms that the rows stand for
abbrev pub shapes_of : Rows → List (List Form)
shapes_of rows = map (map shape) (rows_of rows)
