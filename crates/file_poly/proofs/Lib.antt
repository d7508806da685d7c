mod FileKinds
mod WrittenPolyhedra
mod OtherFiles
mod OtherSystems
