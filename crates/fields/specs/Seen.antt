-- A field as the code holds it.
use Rattle.fields.specs.Field.{Field}
use Rattle.fields.specs.declared.Field.{Field as HeldField}

abbrev pub seen : HeldField → Field
seen f = record { start = f.start; tag = f.tag; whole = f.whole; content = f.content.now }
