-- By which operation table is a dialogue judged, and is that table sure to be the dialogue's?
use Rattle.std.specs.Prelude.{ℕ, Bool, true, false, List, [], ◌∷◌, ◌&&◌, not, Option, Some, None}
use Rattle.std.specs.List.{list_any}
use Rattle.std.specs.Option.{option_or}
use Rattle.std.specs.Str.{bytes_eq}
use Rattle.tcap_parts.specs.declared.dialogue.Dialogue.{Dialogue}
use Rattle.tcap_parts.specs.declared.dialogue.Dialogue.TheVariants as pdus
use Rattle.tcap_msg.specs.declared.kind.Kind.{Kind}
use Rattle.tcap_msg.specs.declared.kind.Kind.TheVariants as kinds
use Rattle.tcap_msg.specs.declared.message.Message.{Message}
use Rattle.tcap_msg.specs.Parts.{dialogue_in, kind_in}
use Rattle.tcap_record.specs.declared.entry.Body.{Body}
use Rattle.tcap_record.specs.declared.entry.Body.TheVariants.{Good}
use Rattle.tcap_record.specs.declared.entry.Entry.{Entry}
use Rattle.tcap_books.specs.Book.{NamedTable, has_none, table_of}

-- The table of a dialogue, or None if the table set has none for it; the application context name by which it was
-- chosen, if there is one; and whether the table may be another dialogue's.
pub record Choice : Type 0 where
  pub table : Option NamedTable
  pub context : Option (List ℕ)
  pub unsure : Bool

-- ---- application context names

-- the application context name of an AARQ, an AARE or an AUDT
abbrev pub name_in : Option Dialogue → Option (List ℕ)
name_in (Some (pdus.Request context info)) = Some context
name_in (Some (pdus.Response context result diagnostic info)) = Some context
name_in (Some (pdus.Uni context info)) = Some context
name_in pdu = None

abbrev pub context_in : Message → Option (List ℕ)
context_in m = name_in (dialogue_in m)

-- the first application context name in the messages of these entries
abbrev pub first_context : List Entry → Option (List ℕ)
first_context [] = None
first_context (entry ∷ entries) = option_or (context_of entry.body) (first_context entries)
  where
    context_of : Body → Option (List ℕ)
    context_of (Good m) = context_in m
    context_of body = None

-- ---- the messages that choose a table

-- whether a message of this kind chooses a table: it begins something, and it asks for the table of its context
abbrev pub chooses : Kind → Bool
chooses kinds.Begin = true
chooses kinds.Unidirectional = true
chooses kind = false

-- the application context name, or its absence, of an entry that is a Begin or a Unidirectional; None for another entry
abbrev pub asked_by : Body → Option (Option (List ℕ))
asked_by (Good m) = by (chooses (kind_in m))
  where
    by : Bool → Option (Option (List ℕ))
    by true = Some (context_in m)
    by false = None
asked_by body = None

-- what the first Begin or Unidirectional of these entries asks for
abbrev pub first_asked : List Entry → Option (Option (List ℕ))
first_asked [] = None
first_asked (entry ∷ entries) = option_or (asked_by entry.body) (first_asked entries)

-- ---- the table

-- whether these are the same contexts in the same order
abbrev pub are_same : List (List ℕ) → List (List ℕ) → Bool
are_same [] [] = true
are_same (one ∷ ones) (other ∷ others) = bytes_eq one other && are_same ones others
are_same ones others = false

-- Whether two look-ups in a table set found the same table, or both found none. No look-up finds the second of two
-- tables with the same contexts.
abbrev pub are_one : Option NamedTable → Option NamedTable → Bool
are_one None None = true
are_one (Some one) (Some another) = are_same one.contexts another.contexts
are_one one another = false

-- whether an entry is a Begin or a Unidirectional that asks for another table than this one
abbrev pub asks_for_another : List NamedTable → Option NamedTable → Entry → Bool
asks_for_another tables table entry = by (asked_by entry.body)
  where
    by : Option (Option (List ℕ)) → Bool
    by None = false
    by (Some context) = not (are_one table (table_of tables context))

-- the first table of a set
abbrev pub first_table : List NamedTable → Option NamedTable
first_table [] = None
first_table (table ∷ tables) = Some table

-- whether a set is one table, which lists no contexts
abbrev pub is_sole : List NamedTable → Bool
is_sole (table ∷ []) = has_none table.contexts
is_sole tables = false

-- the table for this context; without a context, the first table of the set
abbrev pub table_or_first : List NamedTable → Option (List ℕ) → Option NamedTable
table_or_first tables None = first_table tables
table_or_first tables context = table_of tables context

-- The choice by what the first Begin or Unidirectional asks for. It is unsure if another one asks for another table. In
-- a dialogue without any, the first application context name chooses, or else the first table of the set. That is
-- unsure unless the set is one table without contexts.
abbrev pub choice_by : List NamedTable → List Entry → Option (Option (List ℕ)) → Choice
choice_by tables entries (Some context) = record {
  table = table_of tables context;
  context = context;
  unsure = list_any (asks_for_another tables (table_of tables context)) entries;
}
choice_by tables entries None = record {
  table = table_or_first tables (first_context entries);
  context = first_context entries;
  unsure = not (is_sole tables);
}

-- the choice for a dialogue with these entries
abbrev pub choice : List NamedTable → List Entry → Choice
choice tables entries = choice_by tables entries (first_asked entries)
