-- Which entry does a view hold?
use Rattle.tcap_msg.specs.Meaning.{message_of}
use Rattle.tcap_record.specs.declared.entry.Body.{Body}
use Rattle.tcap_record.specs.declared.entry.Body.TheVariants.{Good, Bad, Quiet}
use Rattle.tcap_record.specs.declared.entry.BodyView.{BodyView}
use Rattle.tcap_record.specs.declared.entry.BodyView.TheVariants as views
use Rattle.tcap_record.specs.declared.entry.Entry.{Entry}
use Rattle.tcap_record.specs.declared.entry.EntryView.{EntryView}

abbrev pub body_read : BodyView → Body
body_read (views.Good m) = Good (message_of m)
body_read (views.Bad f) = Bad f
body_read views.Quiet = Quiet

abbrev pub entry_read : EntryView → Entry
entry_read v = record { side = v.side; place = v.place; body = body_read v.body }
