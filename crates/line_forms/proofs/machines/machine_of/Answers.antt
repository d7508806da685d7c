use Rattle.line_forms.proofs.BoundsTable.{bounds_decides}
use Rattle.line_forms.proofs.NoWordsTable.{no_words_decides}
use Rattle.line_forms.proofs.OneNameTable.{one_name_decides}
use Rattle.line_forms.proofs.PrintTable.{print_decides}
use Rattle.line_forms.proofs.SpaceTable.{space_decides}
use Rattle.line_forms.proofs.TwoNamesTable.{two_names_decides}
use Rattle.line_forms.proofs.ThreeNamesTable.{three_names_decides}
use Rattle.line_forms.proofs.ImageTable.{image_decides}
use Rattle.line_forms.proofs.TwoNamesNatTable.{two_names_nat_decides}
use Rattle.line_forms.proofs.RemoveTable.{remove_decides}
use Rattle.line_forms.proofs.FileTable.{file_decides}
use Rattle.line_forms.proofs.NameNatNatTable.{name_nat_nat_decides}
use Rattle.line_forms.proofs.NameNatNameTable.{name_nat_name_decides}
use Rattle.line_forms.proofs.NameNatNatNameTable.{name_nat_nat_name_decides}
use Rattle.line_forms.proofs.NameNatPrefixTable.{name_nat_prefix_decides}
use Rattle.line_forms.proofs.machines.machine_of.Goals as goal

pub returns-in-Nothing : goal.returns-in-Nothing
returns-in-Nothing c = λ command. rw c.in-Nothing.is no_words_decides

pub returns-in-Names : goal.returns-in-Names
returns-in-Names c = λ command. rw c.in-Names.is no_words_decides

pub returns-in-OneName : goal.returns-in-OneName
returns-in-OneName c = λ command. rw c.in-OneName.is one_name_decides

pub returns-in-TwoNames : goal.returns-in-TwoNames
returns-in-TwoNames c = λ command. rw c.in-TwoNames.is two_names_decides

pub returns-in-ThreeNames : goal.returns-in-ThreeNames
returns-in-ThreeNames c = λ command. rw c.in-ThreeNames.is three_names_decides

pub returns-in-SpaceAlone : goal.returns-in-SpaceAlone
returns-in-SpaceAlone c = λ command. rw c.in-SpaceAlone.is space_decides

pub returns-in-TwoNamesNumber : goal.returns-in-TwoNamesNumber
returns-in-TwoNamesNumber c = λ command. rw c.in-TwoNamesNumber.is two_names_nat_decides

pub returns-in-TwoNamesMap : goal.returns-in-TwoNamesMap
returns-in-TwoNamesMap c = λ command. rw c.in-TwoNamesMap.is image_decides

pub returns-in-NameFormat : goal.returns-in-NameFormat
returns-in-NameFormat c = λ command. rw c.in-NameFormat.is file_decides

pub returns-in-NameNumberName : goal.returns-in-NameNumberName
returns-in-NameNumberName c = λ command. rw c.in-NameNumberName.is name_nat_name_decides

pub returns-in-NameNumberPrefix : goal.returns-in-NameNumberPrefix
returns-in-NameNumberPrefix c = λ command. rw c.in-NameNumberPrefix.is name_nat_prefix_decides

pub returns-in-Print : goal.returns-in-Print
returns-in-Print c = λ command. rw c.in-Print.is print_decides

pub returns-in-Remove : goal.returns-in-Remove
returns-in-Remove c = λ command. rw c.in-Remove.is remove_decides

pub returns-in-System : goal.returns-in-System
returns-in-System c = λ command. rw c.in-System.is name_nat_nat_decides

pub returns-in-Trans : goal.returns-in-Trans
returns-in-Trans c = λ command. rw c.in-Trans.is name_nat_nat_name_decides

pub returns-in-Bounds : goal.returns-in-Bounds
returns-in-Bounds c = λ command. rw c.in-Bounds.is bounds_decides

pub returns-in-NameAndPart : goal.returns-in-NameAndPart
returns-in-NameAndPart c = λ command. rw c.in-NameAndPart.is (c.name_part_machine.ensures command)

pub returns-in-SpaceAndPart : goal.returns-in-SpaceAndPart
returns-in-SpaceAndPart c = λ command. rw c.in-SpaceAndPart.is (c.space_part_machine.ensures command)
