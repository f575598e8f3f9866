use Rattle.password_hash.specs.Parts.{dollar}
use Rattle.password_hash.proofs.ParamsFacts.{lacks_decided}
use Rattle.password_hash.proofs.mcf.fields.is_field.Goals as goal

pub returns : goal.returns
returns c = lacks_decided dollar c.args.text.now c.contains.result c.contains.ensures
