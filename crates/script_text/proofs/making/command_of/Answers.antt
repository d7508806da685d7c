use Rattle.script_text.proofs.making.command_of.Goals as goal

pub returns-in-OneName : goal.returns-in-OneName
returns-in-OneName c = rw c.in-OneName.is c.of_one_name.ensures

pub returns-in-NameAndPart : goal.returns-in-NameAndPart
returns-in-NameAndPart c = rw c.in-NameAndPart.is c.of_name_part.ensures

pub returns-in-TwoNames : goal.returns-in-TwoNames
returns-in-TwoNames c = rw c.in-TwoNames.is c.of_two_names.ensures

pub returns-in-ThreeNames : goal.returns-in-ThreeNames
returns-in-ThreeNames c = rw c.in-ThreeNames.is c.of_three_names.ensures

pub returns-in-SpaceAlone : goal.returns-in-SpaceAlone
returns-in-SpaceAlone c = rw c.in-SpaceAlone.is c.of_space.ensures

pub returns-in-SpaceAndPart : goal.returns-in-SpaceAndPart
returns-in-SpaceAndPart c = rw c.in-SpaceAndPart.is c.of_space_part.ensures

pub returns-in-TwoNamesNumber : goal.returns-in-TwoNamesNumber
returns-in-TwoNamesNumber c = rw c.in-TwoNamesNumber.is c.of_two_names_number.ensures

pub returns-in-TwoNamesMap : goal.returns-in-TwoNamesMap
returns-in-TwoNamesMap c = rw c.in-TwoNamesMap.is c.of_map.ensures

pub returns-in-NameFormat : goal.returns-in-NameFormat
returns-in-NameFormat c = rw c.in-NameFormat.is c.of_name_format.ensures

pub returns-in-NameNumberName : goal.returns-in-NameNumberName
returns-in-NameNumberName c = rw c.in-NameNumberName.is c.of_name_number_name.ensures

pub returns-in-NameNumberPrefix : goal.returns-in-NameNumberPrefix
returns-in-NameNumberPrefix c = rw c.in-NameNumberPrefix.is c.of_name_number_prefix.ensures

pub returns-in-Print : goal.returns-in-Print
returns-in-Print c = rw c.in-Print.is c.print_command.ensures

pub returns-in-Remove : goal.returns-in-Remove
returns-in-Remove c = rw c.in-Remove.is c.remove_command.ensures

pub returns-in-System : goal.returns-in-System
returns-in-System c = rw c.in-System.is c.system_command.ensures

pub returns-in-Trans : goal.returns-in-Trans
returns-in-Trans c = rw c.in-Trans.is c.trans_command.ensures

pub returns-in-Bounds : goal.returns-in-Bounds
returns-in-Bounds c = rw c.in-Bounds.is c.bounds_command.ensures
