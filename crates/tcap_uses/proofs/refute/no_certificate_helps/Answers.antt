use Rattle.tcap_uses.proofs.refute.no_certificate_helps.Goals as goal

pub returns : goal.returns
returns c table certificate entries r events refuted gives =
    let (items, are, lawful) = c.what_is_given_is_lawful.ensures table certificate entries events gives in
    c.refuted_is_never_lawful.ensures table entries items r _ refuted are lawful
