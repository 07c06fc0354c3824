mod Every
mod Staged
